-- The points by coordinates that are handed in are those by the names that gave the coordinates.
use Rattle.std.proofs.Common.{◌≡◌, ℕ, List, [], ◌∷◌, map, length, refl, sym, ◌∙◌, ap, subst}
use Rattle.std.specs.List.{All, AllByRecursion}
use Rattle.fact_model.specs.declared.fact.Fact.{Fact}
use Rattle.fact_model.specs.Cell.{cell_of, join}
use Rattle.cube_point.specs.Points.{point_cmp}
use Rattle.cube_point.proofs.PointOrder.{point-total, point-only}
use Rattle.spec_points.specs.Points.{Names, padded, place_of, points_by, View}
use Rattle.spec_points.specs.Deltas.{CodedFact, place_in, delta_points, CodedBy}
use Rattle.spec_points.specs.Arity.{HasArity}
use Rattle.row_fold.specs.Ascends.{Ascends}
use Rattle.spec_points.proofs.Arities.{Keyed, keyed-grouped}
use Rattle.row_fold.proofs.Grouping.{put, grouped}
use Rattle.spec_points.proofs.Members.{every-map, every-from_All}
use Rattle.row_fold.proofs.Regroup.{grouped-same, grouped-ascends, groups-grouped, cell-law}
use Rattle.spec_points.proofs.Cells.{join-comm, join-assoc, one_cell, cell-more}
use Rattle.spec_points.proofs.Points.{points-grouped}

grouped-facts : (n : ℕ) (key : Fact → List ℕ) (pairs : List CodedFact) → grouped point_cmp join (λ (p : CodedFact). key p.1) (λ p. one_cell n p.1) pairs ≡ grouped point_cmp join key (one_cell n) (map (λ (p : CodedFact). p.1) pairs)
grouped-facts n key [] = refl
grouped-facts n key (p ∷ pairs) = ap (put point_cmp join (key p.1) (one_cell n p.1)) (grouped-facts n key pairs)

-- the points by coordinates, item by item
pub delta-grouped : (n : ℕ) (view : View) (pairs : List CodedFact) → delta_points n view pairs ≡ grouped point_cmp join (place_in view) (λ (p : CodedFact). one_cell n p.1) pairs
delta-grouped n view pairs =
    groups-grouped point_cmp point-total point-only join join-comm join-assoc (place_in view) (λ (p : CodedFact). one_cell n p.1) (λ ps. cell_of n (map (λ (p : CodedFact). p.1) ps))
    (cell-law join (λ (p : CodedFact). one_cell n p.1) (λ ps. cell_of n (map (λ (p : CodedFact). p.1) ps)) (λ p. refl) (λ p q ps. cell-more n p.1 q.1 (map (λ (p : CodedFact). p.1) ps))) pairs

-- where the coordinates are those of the names, the points are those by the names
pub delta-points : (ns : Names) (n : ℕ) (view : View) (pairs : List CodedFact) → All (CodedBy ns view) pairs → delta_points n view pairs ≡ points_by ns n view (map (λ (p : CodedFact). p.1) pairs)
delta-points ns n view pairs h =
    delta-grouped n view pairs
    ∙ (grouped-same point_cmp join (place_in view) (λ (p : CodedFact). place_of ns view p.1) (λ p. one_cell n p.1) pairs (every-map (CodedBy ns view) (λ p. place_in view p ≡ place_of ns view p.1) (λ p e. ap padded e) pairs (every-from_All (CodedBy ns view) pairs h))
    ∙ (grouped-facts n (place_of ns view) pairs ∙ sym (points-grouped ns n view (map (λ (p : CodedFact). p.1) pairs))))

-- each point comes before all later ones
pub delta-ascends : (n : ℕ) (view : View) (pairs : List CodedFact) → Ascends point_cmp (delta_points n view pairs)
delta-ascends n view pairs = subst (Ascends point_cmp) (sym (delta-grouped n view pairs))
    (grouped-ascends point_cmp point-total point-only join join-comm join-assoc (place_in view) (λ (p : CodedFact). one_cell n p.1) pairs)

-- places of the view's arity make points of that arity
pub delta-arity : (n : ℕ) (view : View) (pairs : List CodedFact) → AllByRecursion (λ p. HasArity (length view) (place_in view p)) pairs → Keyed (HasArity (length view)) (delta_points n view pairs)
delta-arity n view pairs h = subst (Keyed (HasArity (length view))) (sym (delta-grouped n view pairs))
    (keyed-grouped (HasArity (length view)) (place_in view) (λ (p : CodedFact). one_cell n p.1) pairs h)
