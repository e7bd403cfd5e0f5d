-- The points of a view ascend, are kept under the names of more facts, and those of more facts are the merge.
use Rattle.std.proofs.Common.{◌≡◌, ℕ, List, [], ◌∷◌, ◌++◌, map, unwrap_or, refl, sym, ◌∙◌, ap, subst}
use Rattle.std.specs.List.{AllByRecursion}
use Rattle.fact_model.specs.declared.fact.Fact.{Fact}
use Rattle.fact_model.specs.Fact.{value_at}
use Rattle.fact_model.specs.Cell.{cell_of, join}
use Rattle.cube_point.specs.Points.{point_cmp}
use Rattle.cube_point.proofs.PointOrder.{point-total, point-only}
use Rattle.spec_points.specs.Codes.{names_of, code}
use Rattle.row_fold.specs.Ascends.{Ascends}
use Rattle.spec_points.specs.Points.{padded, Names, coord, place_of, points_by, points, View}
use Rattle.spec_points.specs.Merge.{merge_points}
use Rattle.row_fold.proofs.Grouping.{grouped}
use Rattle.spec_points.proofs.Members.{every-map, every-one, every-both, every-from_All}
use Rattle.row_fold.proofs.Regroup.{grouped-same, grouped-append, grouped-ascends, groups-grouped}
use Rattle.spec_points.proofs.Cells.{join-comm, join-assoc, one_cell, cell-of-facts}
use Rattle.spec_points.proofs.Codes.{codes-kept}

-- the points item by item
pub points-grouped : (ns : Names) (n : ℕ) (view : View) (facts : List Fact) → points_by ns n view facts ≡ grouped point_cmp join (place_of ns view) (one_cell n) facts
points-grouped ns n view facts = groups-grouped point_cmp point-total point-only join join-comm join-assoc (place_of ns view) (one_cell n) (cell_of n) (cell-of-facts n) facts

-- with the same names throughout
pub points-append : (ns : Names) (n : ℕ) (view : View) (xs ys : List Fact) → points_by ns n view (xs ++ ys) ≡ merge_points (points_by ns n view xs) (points_by ns n view ys)
points-append ns n view xs ys = points-grouped ns n view (xs ++ ys)
    ∙ (grouped-append point_cmp point-total point-only join join-comm join-assoc (place_of ns view) (one_cell n) xs ys
    ∙ (λ i. merge_points (sym (points-grouped ns n view xs) i) (sym (points-grouped ns n view ys) i)))

-- each point of a view comes before all later ones
pub points-ascend : (ns : Names) (n : ℕ) (view : View) (facts : List Fact) → Ascends point_cmp (points_by ns n view facts)
points-ascend ns n view facts = subst (Ascends point_cmp) (sym (points-grouped ns n view facts)) (grouped-ascends point_cmp point-total point-only join join-comm join-assoc (place_of ns view) (one_cell n) facts)

-- the place of a fact is kept
places-kept : (xs ys : List Fact) (view : View) → AllByRecursion (λ x. map (λ a. coord (names_of (xs ++ ys) a) (value_at x a)) view ≡ map (λ a. coord (names_of xs a) (value_at x a)) view) xs
places-kept xs ys [] = every-one _ (λ x. refl) xs
places-kept xs ys (a ∷ view) = every-map (λ x. (code (xs ++ ys) a (value_at x a) ≡ code xs a (value_at x a)) × (map (λ a. coord (names_of (xs ++ ys) a) (value_at x a)) view ≡ map (λ a. coord (names_of xs a) (value_at x a)) view))
    (λ x. map (λ a. coord (names_of (xs ++ ys) a) (value_at x a)) (a ∷ view) ≡ map (λ a. coord (names_of xs a) (value_at x a)) (a ∷ view))
    (λ x h. (λ i. unwrap_or (h.0 i) 0 ∷ h.1 i)) xs (every-both _ _ xs (every-from_All _ xs (codes-kept a xs ys)) (places-kept xs ys view))

-- the points are kept under the names of more facts
pub points-kept : (n : ℕ) (view : View) (xs ys : List Fact) → points_by (names_of (xs ++ ys)) n view xs ≡ points n view xs
points-kept n view xs ys = points-grouped (names_of (xs ++ ys)) n view xs
    ∙ (grouped-same point_cmp join (place_of (names_of (xs ++ ys)) view) (place_of (names_of xs) view) (one_cell n) xs
    (every-map _ (λ x. place_of (names_of (xs ++ ys)) view x ≡ place_of (names_of xs) view x) (λ x h. ap padded h) xs (places-kept xs ys view))
    ∙ sym (points-grouped (names_of xs) n view xs))

-- the points of more facts: the old points, merged with the new facts' points by all names
pub points-merge : (measures : ℕ) (view : View) (old new : List Fact)
    → points measures view (old ++ new) ≡ merge_points (points measures view old) (points_by (names_of (old ++ new)) measures view new)
points-merge n view xs ys = points-append (names_of (xs ++ ys)) n view xs ys ∙ ap (λ ps. merge_points ps (points_by (names_of (xs ++ ys)) n view ys)) (points-kept n view xs ys)
