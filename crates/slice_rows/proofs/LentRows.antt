-- The rows of points, one by one, and the sums of their columns.
use Rattle.std.proofs.Common.{◌≡◌, ◌<◌, ◌≤◌, ◌+◌, ◌↔◌, ℕ, zero, suc, List, [], ◌∷◌, map, length, get_or, take, nat_abs, sum_by, IsTrue, true, refl, sym, ◌∙◌, ap, subst, arith}
use Rattle.std.proofs.lemmas.List.{length-map}
use Rattle.std.specs.List.{All}
use Rattle.fact_model.specs.Adds.{AddUp, number_in, numbers_in}
use Rattle.fact_model.specs.declared.cell.Cell.{Cell}
use Rattle.fact_model.specs.declared.slice.Column.{Column}
use Rattle.fact_model.specs.declared.slice.Row.{Row}
use Rattle.fact_model.specs.Fact.{mass_limit}
use Rattle.fact_model.specs.Value.{Key}
use Rattle.fact_model.proofs.Sums.{all_add, column-cons}
use Rattle.spec_points.specs.Answer.{column_of, row_from}

-- a row of nothing
abbrev pub no_row : Row
no_row = record { key = []; numbers = [] }

module _ {E : Type 0} (columns : List Column) (key : E → Key × Cell) where
  abbrev pub rows_by : List E → List Row
  rows_by es = map (row_from columns) (map key es)

  pub row-at : (es : List E) (i : ℕ) (e : E) (d : Row) → i < length es → e ≡ get_or es i e → row_from columns (key e) ≡ get_or (rows_by es) i d
  row-at [] i e d l is = absurd (omega arith)
  row-at (x ∷ es) zero e d l is = ap (λ y. row_from columns (key y)) is
  row-at (x ∷ es) (suc i) e d l is = row-at es i e d (omega arith) is

  pub length-rows : (es : List E) → length (rows_by es) ≡ length es
  length-rows [] = refl
  length-rows (x ∷ es) = ap suc (length-rows es)

  pub rows-wide : (es : List E) → All (λ (row : Row). length row.numbers ≡ length columns) (rows_by es)
  rows-wide [] k d l = absurd (omega arith)
  rows-wide (x ∷ es) zero d l = length-map columns (column_of (key x).1)
  rows-wide (x ∷ es) (suc k) d l = rows-wide es k d (omega arith)

  -- the row of a place below the number of rows
  pub row-there : (rows : List Row) (es : List E) (i : ℕ) (e : E) → rows_by es ≡ rows → i < length rows → e ≡ get_or es i e → (d : Row) → row_from columns (key e) ≡ get_or rows i d
  row-there rows es i e are l is d =
      let low : i < length (rows_by es) = subst (λ (rs : List Row). i < length rs) (sym are) l in
      row-at es i e d (omega (arith, low, length-rows es)) is ∙ ap (λ (rs : List Row). get_or rs i d) are

next-suc : (c i : ℕ) (rows : List Row) (d : Row) → i < length rows → sum_by nat_abs (numbers_in c (take i rows)) + nat_abs (number_in c (get_or rows i d)) ≡ sum_by nat_abs (numbers_in c (take (suc i) rows))
next-suc c i [] d l = absurd (omega arith)
next-suc c zero (r ∷ rows) d l = omega (arith, column-cons c r [])
next-suc c (suc i) (r ∷ rows) d l =
    let low : i < length rows = omega arith in
    omega (arith, column-cons c r (take i rows), column-cons c r (take (suc i) rows), next-suc c i rows d low)

-- the magnitudes of the rows passed and the next
pub next-sum : (c i : ℕ) (rows : List Row) (d : Row) → i < length rows → sum_by nat_abs (numbers_in c (take i rows)) + nat_abs (number_in c (get_or rows i d)) ≡ sum_by nat_abs (numbers_in c (take (i + 1) rows))
next-sum c i rows d l = let more : suc i ≡ i + 1 = omega arith in next-suc c i rows d l ∙ ap (λ n. sum_by nat_abs (numbers_in c (take n rows))) more

-- rows of one width add up where their columns do
pub all-add : (rows : List Row) (w i : ℕ) → All (λ (r : Row). length r.numbers ≡ w) rows → w ≤ i → ((c : ℕ) → c < i → sum_by nat_abs (numbers_in c rows) ≤ mass_limit) → IsTrue true ↔ AddUp rows
all-add [] w i wide past each = ((λ h. record { wide = λ k d l. absurd (omega arith); fit = λ c. omega arith }), (λ h. refl))
all-add (r ∷ rows) w i wide past each = all_add (r ∷ rows) w i (sym (wide 0 r (omega arith))) wide past each
