-- The rows of points are those of the points joined by their grouped coordinates.
use Rattle.std.proofs.Common.{◌≡◌, ℕ, Bool, true, false, ◌==◌, ◌||◌, cond, List, [], ◌∷◌, map, refl, sym, ◌∙◌, ap, inl, inr}
use Rattle.std.proofs.lemmas.Bool.{cases_Bool, eqb-true, eq-eqb}
use Rattle.std.specs.declared.cmp.Ordering.{Ordering}
use Rattle.std.specs.List.{AllByRecursion}
use Rattle.fact_model.specs.declared.cell.Cell.{Cell}
use Rattle.fact_model.specs.declared.slice.Slice.{Slice}
use Rattle.fact_model.specs.Cell.{join}
use Rattle.fact_model.specs.Value.{Key, key_cmp}
use Rattle.fact_model.proofs.ValueOrder.{key_cmp-IsAntisymmetric, key-total}
use Rattle.cube_point.specs.declared.point.Entry.{Entry}
use Rattle.spec_points.specs.Agree.{among}
use Rattle.spec_points.specs.Answer.{coordinate, joined, row_from}
use Rattle.spec_points.specs.Entries.{pair_of}
use Rattle.spec_points.specs.Points.{PlacedCell, View}
use Rattle.spec_points.proofs.Cells.{join-comm, join-assoc}
use Rattle.row_fold.proofs.Grouping.{put, grouped}
use Rattle.spec_points.proofs.Members.{every-one}
use Rattle.row_fold.proofs.Regroup.{cell-law, grouped-same, groups-grouped}
use Rattle.attr_dict.specs.Book.{Book}
use Rattle.point_groups.specs.Kept.{gathered, grouped_dims, kept, kept_pair, same_place}
use Rattle.point_groups.proofs.GatheredPlaces.{same-is_equal}
use Rattle.slice_rows.specs.Grouped.{by_key, group_key, rows_from, value_at_code}
use Rattle.slice_rows.proofs.FoldLaws.{folded-groups}

-- the coordinate of a grouped attribute is kept
pub coordinate-kept : (group : List ℕ) (view : View) (place : List ℕ) (a : ℕ) → among group a ≡ true → coordinate view (kept (grouped_dims group view) place) a ≡ coordinate view place a
coordinate-kept group [] [] a m = refl
coordinate-kept group [] (c ∷ place) a m = refl
coordinate-kept group (v ∷ view) [] a m = refl
coordinate-kept group (v ∷ view) (c ∷ place) a m = elim (cases_Bool (v == a)) [
  | inl here ↦
      ap (λ (b : Bool). cond b (cond (among group v) c 0) (coordinate view (kept (grouped_dims group view) place) a)) here
      ∙ (ap (λ (b : Bool). cond b c 0) (ap (among group) (eqb-true v a here) ∙ m)
      ∙ sym (ap (λ (b : Bool). cond b c (coordinate view place a)) here))
  | inr other ↦
      ap (λ (b : Bool). cond b (cond (among group v) c 0) (coordinate view (kept (grouped_dims group view) place) a)) other
      ∙ (coordinate-kept group view place a m
      ∙ sym (ap (λ (b : Bool). cond b c (coordinate view place a)) other))
]

-- so are the values of the grouped attributes
keys-kept : (b : Book) (view : View) (all group : List ℕ) (place : List ℕ) → AllByRecursion (λ a. among all a ≡ true) group
    → group_key b view group (kept (grouped_dims all view) place) ≡ group_key b view group place
keys-kept b view all [] place m = refl
keys-kept b view all (a ∷ group) place m =
    λ i. value_at_code b a (coordinate-kept all view place a m.0 i) ∷ keys-kept b view all group place m.1 i

pub in-itself : (group : List ℕ) (more : List ℕ) → ((a : ℕ) → among group a ≡ true → among more a ≡ true) → AllByRecursion (λ a. among more a ≡ true) group
in-itself [] more to = tt
in-itself (v ∷ group) more to = (
  to v (ap (λ (b : Bool). b || among group v) (eq-eqb v v refl)),
  in-itself group more (λ a h. to a (elim (v == a) as (λ b. (b || among group a) ≡ true) [ true ↦ refl | false ↦ h ])),
)

grouped-map : {X Y J : Type 0} (S : J → J → Ordering) (key : Y → J) (one : Y → Cell) (h : X → Y) (xs : List X)
    → grouped S join key one (map h xs) ≡ grouped S join (λ x. key (h x)) (λ x. one (h x)) xs
grouped-map S key one h [] = refl
grouped-map S key one h (x ∷ xs) = ap (put S join (key (h x)) (one (h x))) (grouped-map S key one h xs)

module _ (b : Book) (view : View) (group : List ℕ) where
  abbrev own : PlacedCell → Key
  own e = group_key b view group e.0

  as-grouped : (es : List Entry) → by_key b view group es ≡ grouped key_cmp join own (λ (e : PlacedCell). e.1) (map pair_of es)
  as-grouped es = groups-grouped key_cmp key-total key_cmp-IsAntisymmetric join join-comm join-assoc own (λ (e : PlacedCell). e.1) joined
      (cell-law join (λ (e : PlacedCell). e.1) joined (λ e. refl) (λ e f es. refl)) (map pair_of es)

  -- points joined by their grouped coordinates have the keys and the cells of the points
  pub by_key-gathered : (es gs : List Entry) → map pair_of gs ≡ gathered (grouped_dims group view) es → by_key b view group gs ≡ by_key b view group es
  by_key-gathered es gs is =
      let ps = map pair_of es in
      as-grouped gs
      ∙ (ap (grouped key_cmp join own (λ (e : PlacedCell). e.1)) is
      ∙ (folded-groups same_place key_cmp key-total key_cmp-IsAntisymmetric (group_key b view group) (λ j k h. ap (group_key b view group) (same-is_equal j k h)) (map (kept_pair (grouped_dims group view)) ps)
      ∙ (grouped-map key_cmp own (λ (e : PlacedCell). e.1) (kept_pair (grouped_dims group view)) ps
      ∙ (grouped-same key_cmp join (λ e. own (kept_pair (grouped_dims group view) e)) own (λ (e : PlacedCell). e.1) ps
      (every-one (λ e. own (kept_pair (grouped_dims group view) e) ≡ own e) (λ e. keys-kept b view group group e.0 (in-itself group group (λ a h. h))) ps)
      ∙ sym (as-grouped es)))))

-- and so their rows
pub rows-gathered : (b : Book) (view : View) (s : Slice) (es gs : List Entry) → map pair_of gs ≡ gathered (grouped_dims s.group view) es → rows_from b view s gs ≡ rows_from b view s es
rows-gathered b view s es gs is = ap (map (row_from s.columns)) (by_key-gathered b view s.group es gs is)
