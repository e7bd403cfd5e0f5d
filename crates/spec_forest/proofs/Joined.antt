-- How many points there are.
use Rattle.std.proofs.Common.{ℕ, ◌+◌, ◌≤◌, List, [], ◌∷◌, map, filter, length, arith}
use Rattle.std.specs.declared.cmp.Ordering.{Ordering}
use Rattle.std.specs.declared.cmp.Ordering.TheVariants.{Less, Equal, Greater}
use Rattle.std.proofs.lemmas.List.{length-map}
use Rattle.fact_model.specs.declared.fact.Fact.{Fact}
use Rattle.fact_model.specs.Distinct.{by_order, placed, distinct}
use Rattle.fact_model.specs.Groups.{is}
use Rattle.fact_model.specs.Cell.{cell_of}
use Rattle.cube_point.specs.Points.{point_cmp}
use Rattle.spec_points.specs.Points.{PlacedCell, Names, View, place_of, points_by}

placed-few : {K : Type 0} (R : K → K → Ordering) (k : K) (js : List K) → length (placed R k js) ≤ length js + 1
placed-few R k [] = omega arith
placed-few R k (j ∷ js) = elim (R k j) as (λ r. length (by_order r (k ∷ (j ∷ js)) (j ∷ js) (j ∷ placed R k js)) ≤ length (j ∷ js) + 1)
    [ Less ↦ omega arith | Equal ↦ omega arith | Greater ↦ omega (arith, placed-few R k js) ]

distinct-few : {K : Type 0} (R : K → K → Ordering) (ks : List K) → length (distinct R ks) ≤ length ks
distinct-few R [] = omega arith
distinct-few R (k ∷ ks) = omega (arith, placed-few R k (distinct R ks), distinct-few R ks)

-- there are no more points than facts
pub points-few : (names : Names) (n : ℕ) (view : View) (facts : List Fact) → length (points_by names n view facts) ≤ length facts
points-few names n view facts =
    let keys : List (List ℕ) = map (place_of names view) facts in
    omega (arith, length-map {B = PlacedCell} (distinct point_cmp keys) (λ k. (k, cell_of n (filter (λ x. is point_cmp k (place_of names view x)) facts))), distinct-few point_cmp keys, length-map facts (place_of names view))
