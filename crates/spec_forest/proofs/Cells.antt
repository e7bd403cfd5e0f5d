-- What holds of each place and of each cell of the points of a view.
use Rattle.std.proofs.Common.{◌≡◌, ℕ, ◌≤◌, Bool, true, false, cond, List, [], ◌∷◌, map, filter, length, refl, sym, subst, arith}
use Rattle.std.specs.declared.cmp.Ordering.TheVariants.{Less, Equal, Greater}
use Rattle.std.specs.List.{AllByRecursion}
use Rattle.fact_model.specs.declared.fact.Fact.{Fact}
use Rattle.fact_model.specs.declared.cell.Cell.{Cell}
use Rattle.fact_model.specs.Distinct.{by_order, distinct}
use Rattle.fact_model.specs.Groups.{is}
use Rattle.fact_model.specs.Cell.{cell_of, join}
use Rattle.cube_point.specs.Points.{point_cmp}
use Rattle.spec_points.specs.Points.{Names, View, PlacedCell, place_of, points_by}
use Rattle.spec_points.proofs.Cells.{one_cell}
use Rattle.row_fold.proofs.Grouping.{put, grouped}
use Rattle.spec_points.proofs.Points.{points-grouped}

-- ---- what joining keeps

module _ (P : List ℕ → Type 0) (Q : Cell → Type 0) (kept : (c d : Cell) → Q c → Q d → Q (join c d)) where
  abbrev Each : List PlacedCell → Type 0
  Each es = AllByRecursion (λ e. P e.0 × Q e.1) es

  each-put : (k : List ℕ) (c : Cell) (es : List PlacedCell) → P k → Q c → Each es → Each (put point_cmp join k c es)
  each-put k c [] p q h = ((p, q), tt)
  each-put k c (e ∷ es) p q h = elim (point_cmp k e.0) as (λ r. Each (by_order r ((k, c) ∷ (e ∷ es)) ((k, join c e.1) ∷ es) (e ∷ put point_cmp join k c es)))
      [ Less ↦ ((p, q), h) | Equal ↦ ((p, kept c e.1 q h.0.1), h.1) | Greater ↦ (h.0, each-put k c es p q h.1) ]

  each-grouped : (key : Fact → List ℕ) (one : Fact → Cell) (xs : List Fact) → AllByRecursion (λ x. P (key x) × Q (one x)) xs → Each (grouped point_cmp join key one xs)
  each-grouped key one [] h = tt
  each-grouped key one (x ∷ xs) h = each-put (key x) (one x) (grouped point_cmp join key one xs) h.0.0 h.0.1 (each-grouped key one xs h.1)

  -- what holds of the place and of the cell of each fact, and is kept where cells are joined, holds of each point
  pub each-point : (names : Names) (n : ℕ) (view : View) (facts : List Fact) → AllByRecursion (λ x. P (place_of names view x) × Q (one_cell n x)) facts → Each (points_by names n view facts)
  each-point names n view facts h = subst Each (sym (points-grouped names n view facts)) (each-grouped (place_of names view) (one_cell n) facts h)

-- ---- a cell is that of some of the facts

-- the cell of the facts that pass a test
abbrev pub IsCellOf : ℕ → List Fact → Cell → Type 0
IsCellOf n facts c = (p : Fact → Bool) × (c ≡ cell_of n (filter p facts))

cells-at : (n : ℕ) (key : Fact → List ℕ) (facts : List Fact) (ks : List (List ℕ)) → AllByRecursion (λ (e : PlacedCell). IsCellOf n facts e.1) (map (λ k. (k, cell_of n (filter (λ x. is point_cmp k (key x)) facts))) ks)
cells-at n key facts [] = tt
cells-at n key facts (k ∷ ks) = ((λ x. is point_cmp k (key x), refl), cells-at n key facts ks)

-- the cell of a point is that of some of the facts
pub cells-of : (names : Names) (n : ℕ) (view : View) (facts : List Fact) → AllByRecursion (λ (e : PlacedCell). IsCellOf n facts e.1) (points_by names n view facts)
cells-of names n view facts = cells-at n (place_of names view) facts (distinct point_cmp (map (place_of names view) facts))

pub fewer : (p : Fact → Bool) (facts : List Fact) → length (filter p facts) ≤ length facts
fewer p [] = omega arith
fewer p (x ∷ facts) = elim (p x) as (λ b. length (cond b (x ∷ filter p facts) (filter p facts)) ≤ length (x ∷ facts)) [ true ↦ omega (arith, fewer p facts) | false ↦ omega (arith, fewer p facts) ]
