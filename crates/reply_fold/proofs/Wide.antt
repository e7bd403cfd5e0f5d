-- Each row that is read has a number for each column.
use Rattle.std.proofs.Common.{◌≡◌, ℕ, suc, ◌+◌, Bool, true, false, cond, List, [], ◌∷◌, length, drop, map, Result, Ok, Err, ℤ, refl, sym, ◌∙◌, ap, subst, arith}
use Rattle.std.specs.Prelude.{◌==◌, unwrap_or}
use Rattle.std.specs.List.{All, AllByRecursion}
use Rattle.std.specs.Result.{result_ok}
use Rattle.std.proofs.lemmas.Bool.{eqb-true}
use Rattle.std.proofs.lemmas.List.{length-drop, length-map}
use Rattle.std.proofs.lemmas.List.Elements.{All-from_recursion}
use Rattle.cube_schema.specs.declared.schema.Schema.{Schema}
use Rattle.fact_csv.specs.Gathered.{gathered, with_first}
use Rattle.fact_model.specs.declared.slice.Row.{Row}
use Rattle.fact_model.specs.declared.slice.Slice.{Slice}
use Rattle.fact_model.specs.Value.{Key}
use Rattle.reply_fold.specs.Replies.{all_ended, begun_behind, is_end, onto, rows_from, taken}
use Rattle.reply_fold.specs.Rows.{number_at, numbers_in, row_from, row_in, values_in}
use Rattle.reply_fold.specs.Whole.{IsWide}
use Rattle.reply_fold.specs.declared.fault.Fault.{Fault}
use Rattle.reply_fold.specs.declared.fault.Fault.TheVariants.{Record, Cut}

ok-inj : {A E : Type 0} (x y : A) → (λ (r : Result A E). r) (Ok x) ≡ Ok y → x ≡ y
ok-inj {A} {E} x y e = ap (λ (r : Result A E). unwrap_or (result_ok r) x) e

-- there is a value for each answer
as-many : {Y E : Type 0} (answers : List (Result Y E)) (ys : List Y) → gathered answers ≡ Ok ys → length ys ≡ length answers
as-many [] ys is = sym (ap length (ok-inj _ _ is))
as-many (Err e ∷ answers) ys is = cc is
as-many {Y} {E} (Ok x ∷ answers) ys is = by (gathered answers) (as-many answers) is
  where
    by : (rest : Result (List Y) E) → ((zs : List Y) → rest ≡ Ok zs → length zs ≡ length answers) → with_first x rest ≡ Ok ys → length ys ≡ suc (length answers)
    by (Ok zs) others whole = sym (ap length (ok-inj _ _ whole)) ∙ ap suc (others zs refl)
    by (Err e) others whole = cc whole

module _ (s : Schema) (q : Slice) where
  numbers-wide : (key : Result Key Fault) (numbers : Result (List ℤ) Fault) (row : Row) → row_from key numbers ≡ Ok row → numbers ≡ Ok row.numbers
  numbers-wide (Err e) numbers row is = cc is
  numbers-wide (Ok key) (Err e) row is = cc is
  numbers-wide (Ok key) (Ok zs) row is = ap Ok (ap (λ (r : Row). r.numbers) (ok-inj _ _ is))

  row-wide : (n : ℕ) (fields : List (List ℕ)) (row : Row) → row_in s q n fields ≡ Ok row → IsWide q.columns row
  row-wide n fields row is = by (length fields == length q.group + length q.columns) refl is
    where
      by : (b : Bool) → (length fields == length q.group + length q.columns) ≡ b
          → cond b (row_from (values_in s q.group n fields) (numbers_in (length q.group) n fields)) (Err (Record n)) ≡ Ok row → IsWide q.columns row
      by false no_match whole = cc whole
      by true same whole =
          (let count = eqb-true (length fields) (length q.group + length q.columns) same in
          let numbers = as-many (map (number_at n) (drop (length q.group) fields)) row.numbers (numbers-wide (values_in s q.group n fields) (numbers_in (length q.group) n fields) row whole) in
          numbers ∙ (length-map (drop (length q.group) fields) (number_at n) ∙ omega (arith, count, length-drop (length q.group) fields)))

  abbrev Wide : List Row → Type 0
  Wide rows = AllByRecursion (IsWide q.columns) rows

  ended-wide : (begun : ℕ) (rows : List Row) → all_ended begun ≡ Ok rows → Wide rows
  ended-wide begun rows is = by (begun == 0) is
    where
      by : (b : Bool) → cond b (Ok []) (Err Cut) ≡ Ok rows → Wide rows
      by true whole = subst Wide (ok-inj _ _ whole) tt
      by false whole = cc whole

  onto-wide : (row : Result Row Fault) (rest : Result (List Row) Fault) (rows : List Row) → onto row rest ≡ Ok rows
      → ((r : Row) → row ≡ Ok r → IsWide q.columns r) → ((rs : List Row) → rest ≡ Ok rs → Wide rs) → Wide rows
  onto-wide (Err e) rest rows is one others = cc is
  onto-wide (Ok r) (Err e) rows is one others = cc is
  onto-wide (Ok r) (Ok rs) rows is one others = subst Wide (ok-inj _ _ is) (one r refl, others rs refl)

  read-wide : (records : List (List (List ℕ))) (begun n : ℕ) (rows : List Row) → rows_from s q begun n records ≡ Ok rows → Wide rows
  read-wide [] begun n rows is = ended-wide begun rows is
  read-wide (fields ∷ records) begun n rows is = by (is_end begun fields) (read-wide records) is
    where
      by : (b : Bool) → ((m k : ℕ) (rs : List Row) → rows_from s q m k records ≡ Ok rs → Wide rs)
          → taken b (row_in s q n fields) (rows_from s q (begun_behind b begun) (suc n) records) ≡ Ok rows → Wide rows
      by true others whole = others 0 (suc n) rows whole
      by false others whole = onto-wide (row_in s q n fields) (rows_from s q (suc begun) (suc n) records) rows whole (λ r. row-wide n fields r) (λ rs. others (suc begun) (suc n) rs)

  pub rows-wide : (records : List (List (List ℕ))) (rows : List Row) → rows_from s q 0 1 records ≡ Ok rows → All (IsWide q.columns) rows
  rows-wide records rows is = All-from_recursion (IsWide q.columns) rows (read-wide records 0 1 rows is)
