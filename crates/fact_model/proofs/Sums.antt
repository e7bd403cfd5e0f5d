-- Sums of magnitudes in columns of rows.
use Rattle.std.proofs.Common.{◌≡◌, ℕ, zero, suc, ◌+◌, ◌<◌, ◌≤◌, List, [], ◌∷◌, ◌↔◌, take, length, get_or, pos, nat_abs, sum_by, IsTrue, true, false, true≢false, refl, sym, ap, subst, arith, inl, inr}
use Rattle.std.proofs.lemmas.Bool.{cases_lt}
use Rattle.std.proofs.lemmas.List.{get_or_past}
use Rattle.std.proofs.lemmas.List.Sums.{sum_by-cons}
use Rattle.std.specs.List.{All, AllByRecursion}
use Rattle.std.proofs.lemmas.List.Elements.{recursion_from_All}
use Rattle.fact_model.specs.declared.slice.Row.{Row}
use Rattle.fact_model.specs.Adds.{AddUp, number_in, numbers_in, width}
use Rattle.fact_model.specs.Fact.{mass_limit}

pub column-cons : (c : ℕ) (r : Row) (rows : List Row) → sum_by nat_abs (numbers_in c (r ∷ rows)) ≡ nat_abs (number_in c r) + sum_by nat_abs (numbers_in c rows)
column-cons c r rows = sum_by-cons nat_abs (number_in c r) (numbers_in c rows)

-- the rows passed and the next are no more than all
pub next-le : (c i : ℕ) (rows : List Row) (d : Row) → i < length rows → sum_by nat_abs (numbers_in c (take i rows)) + nat_abs (number_in c (get_or rows i d)) ≤ sum_by nat_abs (numbers_in c rows)
next-le c i [] d l = absurd (omega arith)
next-le c zero (r ∷ rows) d l = omega (arith, column-cons c r rows)
next-le c (suc i) (r ∷ rows) d l =
    let low : i < length rows = omega arith in
    omega (arith, column-cons c r rows, column-cons c r (take i rows), next-le c i rows d low)

-- where those are too many, all are
pub too_many : (c i sum next : ℕ) (rows : List Row) (r d : Row) → i < length rows → r ≡ get_or rows i d → sum ≡ sum_by nat_abs (numbers_in c (take i rows)) → next ≡ nat_abs (number_in c r)
    → mass_limit < sum + next → IsTrue false ↔ (sum_by nat_abs (numbers_in c rows) ≤ mass_limit)
too_many c i sum next rows r d l is so_far more past =
    ((λ h. absurd (true≢false (sym h))), (λ low. absurd (let at = ap (λ x. nat_abs (number_in c x)) is in omega (arith, next-le c i rows d l, so_far, more, at, past, low))))

-- past the last column there is nothing to add
none-past : (w c : ℕ) (rows : List Row) → AllByRecursion (λ (r : Row). length r.numbers ≡ w) rows → w ≤ c → sum_by nat_abs (numbers_in c rows) ≡ 0
none-past w c [] all l = omega arith
none-past w c (r ∷ rows) all l =
    let none : number_in c r ≡ pos 0 = get_or_past r.numbers c (pos 0) (omega (arith, all.0, l)) in
    omega (arith, column-cons c r rows, ap nat_abs none, none-past w c rows all.1 l)

-- the columns add up where those of the first row's numbers do
pub all_add : (rows : List Row) (w i : ℕ) → w ≡ width rows → All (λ (r : Row). length r.numbers ≡ w) rows → w ≤ i
    → ((c : ℕ) → c < i → sum_by nat_abs (numbers_in c rows) ≤ mass_limit) → IsTrue true ↔ AddUp rows
all_add rows w i is wide past each = (
  (λ h. record {
    wide = subst (λ n. All (λ (r : Row). length r.numbers ≡ n) rows) is wide;
    fit = λ c. elim (cases_lt c i) [ inl l ↦ each c l | inr g ↦ (let none = none-past w c rows (recursion_from_All (λ (r : Row). length r.numbers ≡ w) rows wide) (omega (arith, g, past)) in omega (arith, none)) ];
  }),
  (λ h. refl),
)
