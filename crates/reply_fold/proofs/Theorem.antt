-- The replies of the plain machine over parts say its reply over all their facts.
use Rattle.std.proofs.Common.{◌≡◌, ℕ, suc, ◌+◌, ◌-◌, ◌<◌, Bool, true, false, cond, List, [], ◌∷◌, ◌++◌, length, drop, map, Some, None, Result, Ok, Err, refl, sym, ◌∙◌, ap, subst, arith, append_assoc, true≢false}
use Rattle.std.specs.Prelude.{◌==◌, IfOk, codes, decimal, flat_map, slice_index}
use Rattle.std.specs.List.{AllByRecursion, before_first, list_all}
use Rattle.std.proofs.lemmas.Bool.{and_parts, eq-eqb, eqb-true, false_from_ne_true, ltb-true}
use Rattle.std.proofs.lemmas.List.{drop_all}
use Rattle.csv.specs.Writing.{default_writer, row_text}
use Rattle.csv_text.specs.Records.{records_of}
use Rattle.csv_text.specs.Rows.{rows_text, row_fields}
use Rattle.cube_schema.specs.Kinds.{measure_count}
use Rattle.cube_schema.specs.Words.{begins}
use Rattle.cube_schema.specs.declared.schema.Schema.{Schema}
use Rattle.fact_model.specs.declared.fact.Fact.{Fact}
use Rattle.fact_model.specs.declared.slice.Column.{Column}
use Rattle.fact_model.specs.declared.slice.Column.TheVariants.{Count, Sum, Min, Max}
use Rattle.fact_model.specs.declared.slice.Row.{Row}
use Rattle.fact_model.specs.declared.slice.Slice.{Slice}
use Rattle.fact_model.specs.Adds.{AddUp}
use Rattle.fact_model.specs.Rows.{rows}
use Rattle.spec_machine.specs.Machine.{is_covered, rows_reply, slice_reply}
use Rattle.reply_text.specs.Replies.{answer_text, line, not_covered, numbered}
use Rattle.row_fold.specs.Folds.{KeepsMass}
use Rattle.row_fold.proofs.FoldLaws.{lists-join}
use Rattle.slice_lang.specs.Agreeing.{SliceAgrees, is_column}
use Rattle.slice_lang.specs.declared.refusal.SliceRefusal.{SliceRefusal}
use Rattle.slice_lang.specs.declared.refusal.SliceRefusal.TheVariants as slices
use Rattle.reply_fold.specs.Input.{behind_end, behind_text, is_whole, place_of_end}
use Rattle.reply_fold.specs.Replies.{first_field, first_in}
use Rattle.reply_fold.specs.Whole.{CanJoin, KeepLimits, as_refused, as_rows, is_short, records_said, replies_said, together, whole_text}
use Rattle.reply_fold.specs.declared.fault.Fault.{Fault}
use Rattle.reply_fold.specs.declared.fault.Fault.TheVariants as faults
use Rattle.reply_fold.specs.declared.replies.Replies.{Replies}
use Rattle.reply_fold.specs.declared.replies.Replies.TheVariants as says
use Rattle.reply_fold.proofs.Adding.{parts-add, parts-wide}
use Rattle.reply_fold.proofs.FactRows.{fact-rows}
use Rattle.reply_fold.proofs.RepliesAgain.{refusals-again, replies-again, reply-fields}
use Rattle.reply_fold.specs.Laws.{IsRow}
use Rattle.reply_fold.proofs.RowsAgain.{not-refusal}
use Rattle.reply_fold.proofs.Texts.{HasField, IsPlain, answer-records, numbered-line, numbered-plain, plain-line, records-again, row_records, texts-flat}

abbrev Fields : Type 0
Fields = List (List ℕ)

-- ---- replies are whole

abbrev last : List ℕ → ℕ
last xs = slice_index xs (length xs - 1)

last-behind : (x y : ℕ) (ys : List ℕ) → last (x ∷ (y ∷ ys)) ≡ last (y ∷ ys)
last-behind x y ys =
    ap (slice_index (x ∷ (y ∷ ys))) {x = suc (suc (length ys)) - 1} {y = suc (length ys)} (omega arith)
    ∙ ap (slice_index (y ∷ ys)) {x = length ys} {y = suc (length ys) - 1} (omega arith)

last-append : (xs : List ℕ) (y : ℕ) (ys : List ℕ) → last (xs ++ (y ∷ ys)) ≡ last (y ∷ ys)
last-append [] y ys = refl
last-append (x ∷ []) y ys = last-behind x y ys
last-append (x ∷ (z ∷ xs)) y ys = last-behind x z (xs ++ (y ∷ ys)) ∙ last-append (z ∷ xs) y ys

-- the text of a record ends with a line feed
record Ends (text : List ℕ) : Type 0 where
  front : List ℕ
  is : text ≡ front ++ 10 ∷ []

row-ends : (fields : Fields) → Ends (row_text default_writer fields)
row-ends fields = record { front = _; is = sym (append_assoc _ _ (10 ∷ [])) }

last-record : (x : ℕ) (rs : List Fields) → x ≡ 10 → last (x ∷ rows_text rs) ≡ 10
last-record x [] is = is
last-record x (r ∷ rs) is =
    let e = row-ends r in
    ap (λ t. last (x ∷ (t ++ rows_text rs))) e.is
    ∙ (ap (λ t. last (x ∷ t)) (append_assoc e.front (10 ∷ []) (rows_text rs))
    ∙ (last-append (x ∷ e.front) 10 (rows_text rs) ∙ last-record 10 rs refl))

whole-again : (rs : List Fields) → is_whole (10 ∷ rows_text rs) ≡ true
whole-again rs = eq-eqb (last (10 ∷ rows_text rs)) 10 (last-record 10 rs refl)

-- ---- what replies say

-- what is said joins to this text
pub record Joins (said : Result Replies Fault) (text : List ℕ) : Type 0 where
  pub replies : Replies
  pub is : said ≡ Ok replies
  pub adds : CanJoin replies
  pub whole : whole_text replies ≡ text

module _ (s : Schema) (asked : Result Slice SliceRefusal) where
  -- replies that are these records
  said-records : (text : List ℕ) (rs : List Fields) → text ≡ 10 ∷ rows_text rs → AllByRecursion HasField rs → replies_said s asked text ≡ records_said s asked rs (first_in rs)
  said-records text rs are some =
      ap (replies_said s asked) are
      ∙ (ap (λ b. cond b (records_said s asked (records_of (10 ∷ rows_text rs)) (first_in (records_of (10 ∷ rows_text rs)))) (Err faults.Cut)) (whole-again rs)
      ∙ ap (λ records. records_said s asked records (first_in records)) (records-again rs some))

  -- ---- refusals

  -- a refusal without its line feed
  record IsRefusal (text : List ℕ) : Type 0 where
    line_is : line text ≡ row_text default_writer (text ∷ [])
    begins_so : begins text (codes "refused ") ≡ true

  lines-some : {A : Type 0} (text : List ℕ) (parts : List A) → AllByRecursion HasField (map (λ a. text ∷ []) parts)
  lines-some text [] = tt
  lines-some text (a ∷ parts) = (omega arith, lines-some text parts)

  lines-text : {A : Type 0} (text : List ℕ) (parts : List A) → line text ≡ row_text default_writer (text ∷ []) → flat_map (λ a. line text) parts ≡ rows_text (map (λ a. text ∷ []) parts)
  lines-text text [] is = refl
  lines-text text (a ∷ parts) is = (λ i. is i ++ lines-text text parts is i)

  refused-said : {A : Type 0} (text : List ℕ) (parts : List A) → 0 < length parts → IsRefusal text
      → records_said s asked (map (λ a. text ∷ []) parts) (first_in (map (λ a. text ∷ []) parts)) ≡ Ok (says.Refused text)
  refused-said text [] some is = absurd (omega arith)
  refused-said text (a ∷ parts) some is =
      ap (λ b. records_said s asked (map (λ a. text ∷ []) (a ∷ parts)) (Ok (cond b (Some text) None))) is.begins_so
      ∙ ap (as_refused text) (refusals-again text (a ∷ parts) 1)

  -- parts that share a refusal
  shared : {A : Type 0} (text : List ℕ) (parts : List A) (replies : List ℕ) → 0 < length parts → IsRefusal text → replies ≡ 10 ∷ flat_map (λ a. line text) parts → Joins (replies_said s asked replies) (line text)
  shared text parts replies some is told = record {
    replies = says.Refused text;
    is = said-records replies (map (λ a. text ∷ []) parts) (told ∙ ap (λ t. 10 ∷ t) (lines-text text parts is.line_is)) (lines-some text parts) ∙ refused-said text parts some is;
    adds = tt;
    whole = sym is.line_is;
  }

  numbered-refusal : (b : ℕ) (text : List ℕ) (n : ℕ) → IsPlain (b ∷ text) → begins ((b ∷ text) ++ decimal n) (codes "refused ") ≡ true → IsRefusal ((b ∷ text) ++ decimal n)
  numbered-refusal b text n plain front = record { line_is = plain-line b (text ++ decimal n) (numbered-plain (b ∷ text) n plain); begins_so = front }

module _ (s : Schema) (parts : List (List Fact)) (some : 0 < length parts) (replies : List ℕ) where
  -- a refusal that names a byte
  by-number : (asked : Result Slice SliceRefusal) (b : ℕ) (text : List ℕ) (n : ℕ) → IsPlain (b ∷ text) → begins ((b ∷ text) ++ decimal n) (codes "refused ") ≡ true
      → replies ≡ 10 ∷ flat_map (λ facts. numbered (b ∷ text) n) parts → Joins (replies_said s asked replies) (numbered (b ∷ text) n)
  by-number asked b text n plain front told =
      let is = numbered-line (b ∷ text) n in
      subst (Joins (replies_said s asked replies)) (sym is)
      (shared s asked ((b ∷ text) ++ decimal n) parts replies some (numbered-refusal s asked b text n plain front) (told ∙ ap (λ t. 10 ∷ flat_map (λ (facts : List Fact). t) parts) is))

  -- parts whose slice no view covers
  uncovered : (q : Slice) → replies ≡ 10 ∷ flat_map (λ facts. line not_covered) parts → Joins (replies_said s (Ok q) replies) (line not_covered)
  uncovered q told = shared s (Ok q) not_covered parts replies some (record { line_is = plain-line 114 (codes "efused notcovered") refl; begins_so = refl }) told

  -- ---- rows

  module _ (q : Slice) (agrees : SliceAgrees s q) (limits : KeepLimits s (together parts)) where
    abbrev told-rows : List Row
    told-rows = flat_map (λ facts. rows facts q) parts

    abbrev records : List Fields
    records = flat_map (λ facts. row_records (rows facts q)) parts

    keeps : (c : Column) → is_column (measure_count s) c ≡ true → KeepsMass (together parts) c
    keeps Count is = limits.few
    keeps (Sum m) is = limits.light m (ltb-true m (measure_count s) is)
    keeps (Min m) is = limits.light m (ltb-true m (measure_count s) is)
    keeps (Max m) is = limits.light m (ltb-true m (measure_count s) is)

    all-keep : (cs : List Column) → list_all (is_column (measure_count s)) cs ≡ true → AllByRecursion (KeepsMass (together parts)) cs
    all-keep [] h = tt
    all-keep (c ∷ cs) h = (let each = and_parts (is_column (measure_count s) c) (list_all (is_column (measure_count s)) cs) h in (keeps c each.0, all-keep cs each.1))

    adds : AddUp told-rows
    adds = parts-add q parts (all-keep q.columns agrees.columns)

    are-rows : AllByRecursion (λ facts. AllByRecursion (IsRow s q) (rows facts q)) parts
    are-rows = fact-rows s q agrees.some parts limits.agree (parts-wide q parts) adds

    every-join : {X : Type 0} (P : X → Type 0) (xs ys : List X) → AllByRecursion P xs → AllByRecursion P ys → AllByRecursion P (xs ++ ys)
    every-join P [] ys h k = k
    every-join P (x ∷ xs) ys h k = (h.0, every-join P xs ys h.1 k)

    all-fields : (lists : List (List Fact)) → AllByRecursion (λ facts. AllByRecursion (IsRow s q) (rows facts q)) lists → AllByRecursion HasField (flat_map (λ facts. row_records (rows facts q)) lists)
    all-fields [] h = tt
    all-fields (facts ∷ lists) h = every-join HasField (row_records (rows facts q)) _ (reply-fields s q (rows facts q) h.0) (all-fields lists h.1)

    first-row : (rs : List Row) (more : List Fields) → AllByRecursion (IsRow s q) rs → first_in (row_records rs ++ more) ≡ Ok None
    first-row [] more h = refl
    first-row (r ∷ rs) more h = ap (λ b. Ok (cond b (Some (first_field (row_fields r))) None)) (not-refusal s q r h.0)

    first-none : (lists : List (List Fact)) → 0 < length lists → AllByRecursion (λ facts. AllByRecursion (IsRow s q) (rows facts q)) lists
        → first_in (flat_map (λ facts. row_records (rows facts q)) lists) ≡ Ok None
    first-none [] l h = absurd (omega arith)
    first-none (facts ∷ lists) l h = first-row (rows facts q) _ h.0

    rows-said : records_said s (Ok q) records (first_in records) ≡ Ok (says.Rows q told-rows)
    rows-said =
        ap (records_said s (Ok q) records) (first-none parts some are-rows)
        ∙ ap (as_rows q) (replies-again s q (λ facts. rows facts q) parts 1 are-rows)

    -- parts with rows
    of-rows : replies ≡ 10 ∷ flat_map (λ facts. answer_text (rows facts q)) parts → Joins (replies_said s (Ok q) replies) (answer_text (rows (together parts) q))
    of-rows told = record {
      replies = says.Rows q told-rows;
      is =
          said-records s (Ok q) replies records
          (told ∙ ap (λ t. 10 ∷ t) ((λ i. flat_map (λ facts. answer-records (rows facts q) i) parts) ∙ texts-flat (λ facts. row_records (rows facts q)) parts))
          (all-fields parts are-rows)
          ∙ rows-said;
      adds = adds;
      whole = ap answer_text (lists-join q parts);
    }

    covered : (b : Bool) → is_covered s q ≡ b → replies ≡ 10 ∷ flat_map (λ facts. rows_reply s facts q) parts → Joins (replies_said s (Ok q) replies) (rows_reply s (together parts) q)
    covered true is told =
        subst (Joins (replies_said s (Ok q) replies)) (ap (λ b. cond b (answer_text (rows (together parts) q)) (line not_covered)) (sym is))
        (of-rows (told ∙ ap (λ b. 10 ∷ flat_map (λ (facts : List Fact). cond b (answer_text (rows facts q)) (line not_covered)) parts) is))
    covered false is told =
        subst (Joins (replies_said s (Ok q) replies)) (ap (λ b. cond b (answer_text (rows (together parts) q)) (line not_covered)) (sym is))
        (uncovered q (told ∙ ap (λ b. 10 ∷ flat_map (λ (facts : List Fact). cond b (answer_text (rows facts q)) (line not_covered)) parts) is))

  -- whatever the text of the slice is
  pub replies-join : (asked : Result Slice SliceRefusal) → is_short asked ≡ false → IfOk asked (SliceAgrees s) → KeepLimits s (together parts) → replies ≡ 10 ∷ flat_map (λ facts. slice_reply s facts asked) parts
      → Joins (replies_said s asked replies) (slice_reply s (together parts) asked)
  replies-join (Ok q) long agrees limits told = covered q agrees limits (is_covered s q) refl told
  replies-join (Err (slices.Syntax n)) long agrees limits told = by-number (Err (slices.Syntax n)) 114 (codes "efused syntax ") n refl refl told
  replies-join (Err (slices.UnknownAttr n)) long agrees limits told = by-number (Err (slices.UnknownAttr n)) 114 (codes "efused attribute ") n refl refl told
  replies-join (Err (slices.UnknownMeasure n)) long agrees limits told = by-number (Err (slices.UnknownMeasure n)) 114 (codes "efused measure ") n refl refl told
  replies-join (Err (slices.Repeated n)) long agrees limits told = by-number (Err (slices.Repeated n)) 114 (codes "efused repeated ") n refl refl told
  replies-join (Err (slices.BadValue n)) long agrees limits told = by-number (Err (slices.BadValue n)) 114 (codes "efused value ") n refl refl told
  replies-join (Err slices.Memory) long agrees limits told = absurd (true≢false long)

-- ---- an input

-- where something stands behind the text, a line `end` stands before it
pub has-end : (input : List ℕ) (b : ℕ) (more : List ℕ) → behind_text input ≡ b ∷ more → (place_of_end input == length input) ≡ false
has-end input b more is = false_from_ne_true (place_of_end input == length input) (λ e.
    let same = eqb-true (place_of_end input) (length input) e in
    let none : behind_end input ≡ [] = drop_all (place_of_end input + 5) input (omega (arith, same)) in
    let nothing : length (behind_text input) ≡ 0 = ap (λ t. length (drop (length (before_first (λ b. b == 10) t)) t)) none in
    let more = ap length is in
    absurd (omega arith))
