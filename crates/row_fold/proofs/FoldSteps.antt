-- Rows folded so far, and one row more.
use Rattle.std.proofs.Common.{◌≡◌, ℕ, zero, suc, ◌<◌, ◌≤◌, Bool, true, false, cond, List, [], ◌∷◌, ◌++◌, map, filter, length, get_or, take, ℤ, nat_abs, sum_by, refl, sym, ◌∙◌, ap, subst, arith, append-nil}
use Rattle.std.proofs.lemmas.List.{map-append}
use Rattle.std.proofs.lemmas.List.Elements.{filter-append, All-from_recursion, recursion_from_All}
use Rattle.std.specs.List.{All, AllByRecursion}
use Rattle.fact_model.specs.declared.slice.Column.{Column}
use Rattle.fact_model.specs.declared.slice.Row.{Row}
use Rattle.fact_model.specs.Adds.{AddUp, number_in, numbers_in}
use Rattle.fact_model.specs.Value.{Key, key_cmp}
use Rattle.fact_model.proofs.Sums.{column-cons, next-le}
use Rattle.row_fold.specs.Folds.{folded}
use Rattle.row_fold.specs.Joins.{join_numbers}
use Rattle.row_fold.specs.Taking.{CanTake, by_key, group_size}
use Rattle.row_fold.proofs.Adding.{put-size, put-wide}
use Rattle.row_fold.proofs.FoldLaws.{rows-grouped}
use Rattle.row_fold.proofs.Grouping.{grouped, put}

module _ (cs : List Column) (test : Key → Bool) (part : Key → Key) where
  -- a row by the part of its key
  abbrev cut : Row → Row
  cut r = record { key = part r.key; numbers = r.numbers }

  abbrev passing : List Row → List Row
  passing rows = filter (λ (r : Row). test r.key) rows

  abbrev by_part : List Row → List (Key × List ℤ)
  by_part rows = grouped key_cmp (join_numbers cs) (λ (r : Row). part r.key) (λ r. r.numbers) rows

  cut-grouped : (rows : List Row) → grouped key_cmp (join_numbers cs) (λ (r : Row). r.key) (λ r. r.numbers) (map cut rows) ≡ by_part rows
  cut-grouped [] = refl
  cut-grouped (r ∷ rows) = ap (put key_cmp (join_numbers cs) (part r.key) r.numbers) (cut-grouped rows)

  -- the rows that pass, by the part of their keys
  cut-folded : (rows : List Row) → by_key cs (map cut (passing rows)) ≡ folded cs test part rows
  cut-folded rows = rows-grouped cs (λ (r : Row). r.key) (map cut (passing rows)) ∙ (cut-grouped (passing rows) ∙ sym (rows-grouped cs (λ (r : Row). part r.key) (passing rows)))

  -- a row that does not pass changes nothing
  pub passed-by : (rows : List Row) (r : Row) → test r.key ≡ false → folded cs test part (rows ++ r ∷ []) ≡ folded cs test part rows
  passed-by rows r out =
      sym (cut-folded (rows ++ r ∷ []))
      ∙ (ap (λ rs. by_key cs (map cut rs)) (filter-append (λ (r : Row). test r.key) rows (r ∷ []) ∙ (ap (λ b. passing rows ++ cond b (r ∷ []) []) out ∙ append-nil (passing rows)))
      ∙ cut-folded rows)

  -- a row that passes is taken in by the part of its key
  pub taken-in : (rows : List Row) (r : Row) (old new : List (Key × List ℤ)) → test r.key ≡ true → ((qs : List Row) → old ≡ by_key cs qs → new ≡ by_key cs (qs ++ cut r ∷ []))
      → old ≡ folded cs test part rows → new ≡ folded cs test part (rows ++ r ∷ [])
  taken-in rows r old new into more is =
      more (map cut (passing rows)) (is ∙ sym (cut-folded rows))
      ∙ (ap (by_key cs) (sym (map-append cut (passing rows) (r ∷ [])))
      ∙ (ap (λ rs. by_key cs (map cut rs)) (sym (filter-append (λ (r : Row). test r.key) rows (r ∷ []) ∙ ap (λ b. passing rows ++ cond b (r ∷ []) []) into))
      ∙ cut-folded (rows ++ r ∷ [])))

  -- ---- magnitudes

  grouped-size : (i : ℕ) (rows : List Row) → sum_by (group_size i) (by_part rows) ≤ sum_by nat_abs (numbers_in i rows)
  grouped-size i [] = omega arith
  grouped-size i (r ∷ rows) = omega (arith, put-size cs (part r.key) r.numbers i (by_part rows), grouped-size i rows, column-cons i r rows)

  passing-size : (i : ℕ) (rows : List Row) → sum_by nat_abs (numbers_in i (passing rows)) ≤ sum_by nat_abs (numbers_in i rows)
  passing-size i [] = omega arith
  passing-size i (r ∷ rows) = elim (test r.key) as (λ b. sum_by nat_abs (numbers_in i (cond b (r ∷ passing rows) (passing rows))) ≤ sum_by nat_abs (numbers_in i (r ∷ rows))) [
    | true ↦ omega (arith, column-cons i r rows, column-cons i r (passing rows), passing-size i rows)
    | false ↦ omega (arith, column-cons i r rows, passing-size i rows)
  ]

  grouped-wide : (rows : List Row) → AllByRecursion (λ (r : Row). length r.numbers ≡ length cs) rows → AllByRecursion (λ (g : Key × List ℤ). length g.1 ≡ length cs) (by_part rows)
  grouped-wide [] h = tt
  grouped-wide (r ∷ rows) h = put-wide cs (part r.key) r.numbers h.0 (by_part rows) (grouped-wide rows h.1)

  passing-wide : (rows : List Row) → AllByRecursion (λ (r : Row). length r.numbers ≡ length cs) rows → AllByRecursion (λ (r : Row). length r.numbers ≡ length cs) (passing rows)
  passing-wide [] h = tt
  passing-wide (r ∷ rows) h = elim (test r.key) as (λ b. AllByRecursion (λ (r : Row). length r.numbers ≡ length cs) (cond b (r ∷ passing rows) (passing rows))) [
    | true ↦ (h.0, passing-wide rows h.1)
    | false ↦ passing-wide rows h.1
  ]

  front-wide : (i : ℕ) (rows : List Row) → AllByRecursion (λ (r : Row). length r.numbers ≡ length cs) rows → AllByRecursion (λ (r : Row). length r.numbers ≡ length cs) (take i rows)
  front-wide zero rows h = tt
  front-wide (suc i) [] h = tt
  front-wide (suc i) (r ∷ rows) h = (h.0, front-wide i rows h.1)

  -- there is room for the next row
  pub next-room : (rows : List Row) (i : ℕ) (r d : Row) (old : List (Key × List ℤ)) → AddUp rows → All (λ (r : Row). length r.numbers ≡ length cs) rows → i < length rows → r ≡ get_or rows i d
      → old ≡ folded cs test part (take i rows) → CanTake cs old r.numbers
  next-room rows i r d old adds wide low is so_far =
      let are : old ≡ by_part (passing (take i rows)) = so_far ∙ rows-grouped cs (λ (r : Row). part r.key) (passing (take i rows)) in
      let all = recursion_from_All (λ (r : Row). length r.numbers ≡ length cs) rows wide in
      record {
        width = ap (λ (r : Row). length r.numbers) is ∙ wide i d low;
        wide = subst (All (λ (g : Key × List ℤ). length g.1 ≡ length cs)) (sym are) (All-from_recursion (λ (g : Key × List ℤ). length g.1 ≡ length cs) (by_part (passing (take i rows)))
            (grouped-wide (passing (take i rows)) (passing-wide (take i rows) (front-wide i rows all))));
        fit = λ c.
            (let same = ap (sum_by (group_size c)) are in
            let here = ap (λ x. nat_abs (number_in c x)) is in
            omega (arith, same, here, grouped-size c (passing (take i rows)), passing-size c (take i rows), next-le c i rows d low, adds.fit c));
      }
