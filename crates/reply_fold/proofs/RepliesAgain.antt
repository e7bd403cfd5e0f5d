-- The records of replies, read again.
use Rattle.std.proofs.Common.{◌≡◌, ℕ, suc, ◌+◌, true, cond, List, [], ◌∷◌, ◌++◌, length, map, Result, Ok, Err, refl, sym, ◌∙◌, ap, arith, append_assoc, append-nil}
use Rattle.std.specs.Prelude.{flat_map}
use Rattle.std.specs.List.{All, AllByRecursion}
use Rattle.std.proofs.lemmas.List.Elements.{recursion_from_All}
use Rattle.std.specs.Str.{bytes_eq}
use Rattle.std.proofs.lemmas.Cmp.{nat_list_eq_equiv}
use Rattle.csv_text.specs.Records.{records_of}
use Rattle.csv_text.specs.Rows.{row_fields}
use Rattle.reply_text.specs.Replies.{answer_text}
use Rattle.cube_schema.specs.declared.schema.Schema.{Schema}
use Rattle.fact_model.specs.declared.slice.Row.{Row}
use Rattle.fact_model.specs.declared.slice.Slice.{Slice}
use Rattle.reply_fold.specs.Replies.{end_text, onto, begun_behind, refused_from, rows_from, taken, with_front}
use Rattle.reply_fold.specs.Rows.{row_in}
use Rattle.reply_fold.specs.declared.fault.Fault.{Fault}
use Rattle.reply_fold.specs.declared.fault.Fault.TheVariants.{Differs}
use Rattle.reply_fold.specs.Laws.{IsRow}
use Rattle.reply_fold.proofs.RowsAgain.{has-fields, not-end, row-again}
use Rattle.reply_fold.proofs.Texts.{HasField, answer-records, end_record, records-again, row_records}

-- ---- rows

same-bytes : (text : List ℕ) → bytes_eq text text ≡ true
same-bytes text = nat_list_eq_equiv.refl text

front-front : (xs ys : List Row) (rest : Result (List Row) Fault) → with_front xs (with_front ys rest) ≡ with_front (xs ++ ys) rest
front-front xs ys (Err e) = refl
front-front xs ys (Ok zs) = ap Ok (sym (append_assoc xs ys zs))

no-front : (rest : Result (List Row) Fault) → with_front [] rest ≡ rest
no-front (Err e) = refl
no-front (Ok rows) = refl

module _ (s : Schema) (q : Slice) where
  abbrev Record : Type 0
  Record = List (List ℕ)

  -- a row more
  row-more : (begun n : ℕ) (row : Row) (more : List Record) → IsRow s q row → rows_from s q begun n (row_fields row ∷ more) ≡ with_front (row ∷ []) (rows_from s q (suc begun) (suc n) more)
  row-more begun n row more is =
      let other = not-end s q row is begun in
      ap (λ b. taken b (row_in s q n (row_fields row)) (rows_from s q (begun_behind b begun) (suc n) more)) other
      ∙ ap (λ r. onto r (rows_from s q (suc begun) (suc n) more)) (row-again s n q row is)

  -- the end of a reply
  end-more : (begun n : ℕ) (more : List Record) → rows_from s q begun n ((end_text begun ∷ []) ∷ more) ≡ rows_from s q 0 (suc n) more
  end-more begun n more = ap (λ b. taken b (row_in s q n (end_text begun ∷ [])) (rows_from s q (begun_behind b begun) (suc n) more)) (same-bytes (end_text begun))

  -- a reply of rows
  reply-more : (rows : List Row) (begun n : ℕ) (more : List Record) → AllByRecursion (IsRow s q) rows
      → rows_from s q begun n (map row_fields rows ++ ((end_text (begun + length rows) ∷ []) ∷ more)) ≡ with_front rows (rows_from s q 0 (suc (n + length rows)) more)
  reply-more [] begun n more h =
      ap (λ k. rows_from s q begun n ((end_text k ∷ []) ∷ more)) {x = begun + 0} {y = begun} (omega arith)
      ∙ (end-more begun n more ∙ (sym (no-front (rows_from s q 0 (suc n) more)) ∙ ap (λ k. with_front [] (rows_from s q 0 (suc k) more)) {x = n} {y = n + 0} (omega arith)))
  reply-more (row ∷ rows) begun n more h =
      row-more begun n row (map row_fields rows ++ ((end_text (begun + suc (length rows)) ∷ []) ∷ more)) h.0
      ∙ ap (λ k. with_front (row ∷ []) (rows_from s q (suc begun) (suc n) (map row_fields rows ++ ((end_text k ∷ []) ∷ more)))) {x = begun + suc (length rows)} {y = suc begun + length rows} (omega arith)
      ∙ (ap (with_front (row ∷ [])) (reply-more rows (suc begun) (suc n) more h.1)
      ∙ (front-front (row ∷ []) rows (rows_from s q 0 (suc (suc n + length rows)) more)
      ∙ ap (λ k. with_front (row ∷ rows) (rows_from s q 0 (suc k) more)) {x = suc n + length rows} {y = n + suc (length rows)} (omega arith)))

  -- replies of rows
  pub replies-again : {A : Type 0} (rows : A → List Row) (parts : List A) (n : ℕ) → AllByRecursion (λ a. AllByRecursion (IsRow s q) (rows a)) parts
      → rows_from s q 0 n (flat_map (λ a. row_records (rows a)) parts) ≡ Ok (flat_map rows parts)
  replies-again rows [] n h = refl
  replies-again rows (a ∷ parts) n h =
      ap (rows_from s q 0 n) (append_assoc (map row_fields (rows a)) (end_record (rows a) ∷ []) (flat_map (λ a. row_records (rows a)) parts))
      ∙ (ap (λ k. rows_from s q 0 n (map row_fields (rows a) ++ ((end_text k ∷ []) ∷ flat_map (λ a. row_records (rows a)) parts))) {x = length (rows a)} {y = 0 + length (rows a)} (omega arith)
      ∙ reply-more (rows a) 0 n (flat_map (λ a. row_records (rows a)) parts) h.0 ∙ ap (with_front (rows a)) (replies-again rows parts (suc (n + length (rows a))) h.1))

  -- each record of a reply has a field
  some-fields : (rs : List Row) (end : Record) → HasField end → AllByRecursion (IsRow s q) rs → AllByRecursion HasField (map row_fields rs ++ end ∷ [])
  some-fields [] end has h = (has, tt)
  some-fields (r ∷ rs) end has h = (has-fields s q r h.0, some-fields rs end has h.1)

  pub reply-fields : (rows : List Row) → AllByRecursion (IsRow s q) rows → AllByRecursion HasField (row_records rows)
  reply-fields rows h = some-fields rows (end_record rows) (omega arith) h

  -- the reply of rows is read back as the rows
  pub rows-again : (rows : List Row) → All (IsRow s q) rows → rows_from s q 0 1 (records_of (10 ∷ answer_text rows)) ≡ Ok rows
  rows-again rows are =
      let each = recursion_from_All (IsRow s q) rows are in
      ap (rows_from s q 0 1)
      (ap (λ t. records_of (10 ∷ t)) (answer-records rows) ∙ (records-again (row_records rows) (reply-fields rows each) ∙ sym (append-nil (row_records rows))))
      ∙ (replies-again (λ rs. rs) (rows ∷ []) 1 (each, tt) ∙ ap Ok (append-nil rows))

-- ---- refusals

pub refusals-again : {A : Type 0} (text : List ℕ) (parts : List A) (n : ℕ) → refused_from text n (map (λ a. text ∷ []) parts) ≡ Ok tt
refusals-again text [] n = refl
refusals-again text (a ∷ parts) n = ap (λ b. cond b (refused_from text (suc n) (map (λ a. text ∷ []) parts)) (Err (Differs n))) (same-bytes text) ∙ refusals-again text parts (suc n)
