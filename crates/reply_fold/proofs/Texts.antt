-- The lines of replies as records of `csv`.
use Rattle.std.proofs.Common.{◌≡◌, ℕ, suc, ◌<◌, false, List, [], ◌∷◌, ◌++◌, length, map, Some, refl, sym, ◌∙◌, ap, arith, append_assoc, append-nil}
use Rattle.std.specs.Prelude.{codes, decimal, flat_map}
use Rattle.std.specs.List.{AllByRecursion, list_any}
use Rattle.std.proofs.lemmas.Bool.{ne_eqb}
use Rattle.std.proofs.lemmas.List.Folds.{list_any-append}
use Rattle.csv.specs.Machine.{next_record}
use Rattle.csv.specs.Reading.{default_config, records, records_from, strip_bom}
use Rattle.csv.specs.Writing.{default_writer, fields_text, is_blank, needs_byte, read_back, row_text}
use Rattle.csv.specs.declared.parser.State.TheVariants as st
use Rattle.csv.proofs.RoundTrip.{read-write}
use Rattle.csv_text.specs.Reader.{records_left}
use Rattle.csv_text.specs.Records.{records_of}
use Rattle.csv_text.specs.Rows.{rows_text, row_fields}
use Rattle.csv_text.proofs.AllRecords.{all_left, next_left}
use Rattle.fact_model.specs.declared.slice.Row.{Row}
use Rattle.reply_text.specs.Replies.{answer_text, line, numbered}
use Rattle.reply_fold.specs.Replies.{end_text}
use Rattle.reply_fold.proofs.Numerals.{decimal-digits, digits-plain}

abbrev Fields : Type 0
Fields = List (List ℕ)

-- ---- a line that needs no quotes

abbrev pub IsPlain : List ℕ → Type 0
IsPlain text = list_any (needs_byte default_writer) text ≡ false

pub plain-line : (b : ℕ) (text : List ℕ) → IsPlain (b ∷ text) → line (b ∷ text) ≡ row_text default_writer ((b ∷ text) ∷ [])
unfolding is_blank fields_text
plain-line b text plain = rw (plain, append-nil text, ne_eqb (suc (length text)) 0 (λ e. omega (arith, e))) refl

pub numbered-plain : (text : List ℕ) (n : ℕ) → IsPlain text → IsPlain (text ++ decimal n)
numbered-plain text n plain = list_any-append (needs_byte default_writer) text (decimal n) ∙ rw (plain, digits-plain (decimal n) (decimal-digits n)) refl

pub numbered-line : (text : List ℕ) (n : ℕ) → numbered text n ≡ line (text ++ decimal n)
numbered-line text n = sym (append_assoc text (decimal n) (10 ∷ []))

-- ---- texts of records

pub texts-append : (xs ys : List Fields) → rows_text (xs ++ ys) ≡ rows_text xs ++ rows_text ys
texts-append [] ys = refl
texts-append (x ∷ xs) ys = ap (λ t. row_text default_writer x ++ t) (texts-append xs ys) ∙ sym (append_assoc (row_text default_writer x) (rows_text xs) (rows_text ys))

pub texts-flat : {A : Type 0} (f : A → List Fields) (xs : List A) → flat_map (λ a. rows_text (f a)) xs ≡ rows_text (flat_map f xs)
texts-flat f [] = refl
texts-flat f (x ∷ xs) = ap (λ t. rows_text (f x) ++ t) (texts-flat f xs) ∙ sym (texts-append (f x) (flat_map f xs))

-- the record of the last line of a reply
abbrev pub end_record : List Row → Fields
end_record rows = end_text (length rows) ∷ []

-- the records of a reply of rows
abbrev pub row_records : List Row → List Fields
row_records rows = map row_fields rows ++ end_record rows ∷ []

pub answer-records : (rows : List Row) → answer_text rows ≡ rows_text (row_records rows)
answer-records rows =
    let last : numbered (codes "rows ") (length rows) ≡ rows_text (end_record rows ∷ []) =
    numbered-line (codes "rows ") (length rows) ∙ plain-line 114 (codes "ows " ++ decimal (length rows)) (numbered-plain (codes "rows ") (length rows) refl)
    ∙ sym (append-nil (row_text default_writer (end_record rows))) in
    ap (λ t. rows_text (map row_fields rows) ++ t) last ∙ sym (texts-append (map row_fields rows) (end_record rows ∷ []))

-- ---- read again

-- a record has a field
abbrev pub HasField : Fields → Type 0
HasField fields = 0 < length fields

back : (fields : Fields) → HasField fields → read_back fields ≡ fields
back [] h = absurd (omega arith)
back (f ∷ fields) h = refl

next-again : (fields : Fields) (tail : List ℕ) → HasField fields → next_record default_config st.StartRecord [] [] (row_text default_writer fields ++ tail) ≡ Some (fields, st.StartRecord, tail)
next-again fields tail h = read-write fields tail ∙ ap (λ (f : Fields). Some (f, st.StartRecord, tail)) (back fields h)

-- an empty line is skipped
next-behind : (text : List ℕ) → next_record default_config st.StartRecord [] [] (10 ∷ text) ≡ next_record default_config st.StartRecord [] [] text
unfolding next_record
next-behind text = refl

left-again : (rs : List Fields) → AllByRecursion HasField rs → records_left st.StartRecord (Some (rows_text rs)) ≡ rs
unfolding records_left records_from next_record
left-again [] h = refl
left-again (r ∷ rs) h =
    next_left st.StartRecord (rows_text (r ∷ rs)) (r, st.StartRecord, rows_text rs) refl (next-again r (rows_text rs) h.0) ∙ ap (λ l. r ∷ l) (left-again rs h.1)

behind-again : (rs : List Fields) → AllByRecursion HasField rs → records_left st.StartRecord (Some (10 ∷ rows_text rs)) ≡ rs
unfolding records_left records_from next_record
behind-again [] h = refl
behind-again (r ∷ rs) h =
    next_left st.StartRecord (10 ∷ rows_text (r ∷ rs)) (r, st.StartRecord, rows_text rs) refl (next-behind (rows_text (r ∷ rs)) ∙ next-again r (rows_text rs) h.0) ∙ ap (λ l. r ∷ l) (left-again rs h.1)

-- a line feed is no byte order mark
unmarked : (text : List ℕ) → strip_bom (10 ∷ text) ≡ 10 ∷ text
unfolding strip_bom
unmarked [] = refl
unmarked (b ∷ []) = refl
unmarked (b ∷ (c ∷ text)) = refl

-- records that were written behind a line feed are read again
pub records-again : (rs : List Fields) → AllByRecursion HasField rs → records_of (10 ∷ rows_text rs) ≡ rs
unfolding records_of
records-again rs h = ap (records default_config) (unmarked (rows_text rs)) ∙ (sym (all_left (10 ∷ rows_text rs)) ∙ behind-again rs h)
