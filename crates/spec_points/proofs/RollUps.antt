-- The points of a coarser view are the finer view's points, rolled up.
use Rattle.std.proofs.Common.{◌≡◌, ℕ, ◌-◌, true, List, [], ◌∷◌, ◌++◌, map, length, filter, replicate, refl, sym, ◌∙◌, ap}
use Rattle.std.specs.List.{AllByRecursion, All}
use Rattle.fact_model.specs.declared.fact.Fact.{Fact}
use Rattle.fact_model.specs.Fact.{value_at}
use Rattle.fact_model.specs.Cell.{join}
use Rattle.cube_point.specs.Points.{point_cmp}
use Rattle.cube_point.proofs.PointOrder.{point-total, point-only}
use Rattle.spec_points.specs.Points.{Names, padded, coord, place_of, points_by, View, PlacedCell}
use Rattle.spec_points.specs.Answer.{coordinate, joined}
use Rattle.spec_points.specs.Agree.{among}
use Rattle.spec_points.specs.RollUp.{projected, rolled_up}
use Rattle.row_fold.proofs.Grouping.{grouped}
use Rattle.spec_points.proofs.Members.{every-one, every-from_All}
use Rattle.row_fold.proofs.Regroup.{grouped-same, groups-grouped, cell-law, regroup}
use Rattle.spec_points.proofs.Cells.{join-comm, join-assoc, one_cell}
use Rattle.spec_points.proofs.Points.{points-grouped}
use Rattle.spec_points.proofs.Answers.{coordinate-of}

filter-true : {X : Type 0} (xs : List X) → filter (λ x. true) xs ≡ xs
filter-true [] = refl
filter-true (x ∷ xs) = ap (λ r. x ∷ r) (filter-true xs)

coordinates-of : (f : ℕ → ℕ) (fine zs coarse : List ℕ) → AllByRecursion (λ a. among fine a ≡ true) coarse → map (coordinate fine (map f fine ++ zs)) coarse ≡ map f coarse
coordinates-of f fine zs [] m = refl
coordinates-of f fine zs (a ∷ coarse) m = (λ i. coordinate-of f fine zs a m.0 i ∷ coordinates-of f fine zs coarse m.1 i)

-- for any names
pub roll-up : (ns : Names) (n : ℕ) (fine coarse : View) (facts : List Fact) → All (λ a. among fine a ≡ true) coarse
    → rolled_up fine coarse (points_by ns n fine facts) ≡ points_by ns n coarse facts
roll-up ns n fine coarse facts m =
    let g : List ℕ → List ℕ = projected fine coarse in
    groups-grouped point_cmp point-total point-only join join-comm join-assoc (λ (e : PlacedCell). g e.0) (λ e. e.1) joined (cell-law join (λ (e : PlacedCell). e.1) joined (λ e. refl) (λ e f es. refl)) (points_by ns n fine facts)
    ∙ (ap (grouped point_cmp join (λ (e : PlacedCell). g e.0) (λ e. e.1)) (sym (filter-true (points_by ns n fine facts)) ∙ ap (filter (λ e. true)) (points-grouped ns n fine facts))
    ∙ (regroup join join-comm join-assoc point_cmp point-total point-only point_cmp point-total point-only (place_of ns fine) (one_cell n) g (λ k. true) facts
    ∙ (ap (grouped point_cmp join (λ x. g (place_of ns fine x)) (one_cell n)) (filter-true facts)
    ∙ (grouped-same point_cmp join (λ x. g (place_of ns fine x)) (place_of ns coarse) (one_cell n) facts
    (every-one (λ x. g (place_of ns fine x) ≡ place_of ns coarse x) (λ x. ap padded (coordinates-of (λ a. coord (ns a) (value_at x a)) fine (replicate (8 - length (map (λ a. coord (ns a) (value_at x a)) fine)) 0) coarse (every-from_All (λ a. among fine a ≡ true) coarse m))) facts)
    ∙ sym (points-grouped ns n coarse facts)))))
