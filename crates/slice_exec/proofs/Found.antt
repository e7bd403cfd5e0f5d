-- The points that a search finds in the tree of a view are those of the view inside the region of a slice.
use Rattle.std.proofs.Common.{◌≡◌, ◌<◌, ◌≤◌, ℕ, suc, Bool, true, false, cond, List, [], ◌∷◌, filter, get_or, length, map, inl, inr, refl, sym, subst, ◌∙◌, ap, arith, true≢false}
use Rattle.std.specs.Prelude.{◌==◌, ◌↔◌, IsTrue, slice_index}
use Rattle.std.specs.List.{All, AllByRecursion}
use Rattle.std.proofs.lemmas.Bool.{cases_Bool, eq-eqb}
use Rattle.fact_model.specs.declared.fact.Fact.{Fact}
use Rattle.fact_model.specs.declared.slice.Cond.{Cond}
use Rattle.fact_model.specs.declared.slice.Slice.{Slice}
use Rattle.cube_point.specs.declared.bounds.Region.{Region}
use Rattle.cube_point.specs.declared.point.Entry.{Entry}
use Rattle.cube_point.specs.declared.point.Point.{Point}
use Rattle.cube_point.specs.declared.point.Shape.{Shape}
use Rattle.cube_point.specs.Boxes.{IsInside}
use Rattle.cube_schema.specs.declared.schema.Schema.{Schema}
use Rattle.cube_schema.specs.Kinds.{measure_count}
use Rattle.select_map.specs.Selection.{tree_of}
use Rattle.select_map.specs.Views.{tree_number}
use Rattle.spec_points.specs.Answer.{Interval, inside, region, top_coord}
use Rattle.spec_points.specs.Codes.{names_of}
use Rattle.spec_points.specs.Entries.{entry_of}
use Rattle.spec_points.specs.Points.{Names, PlacedCell, View, points_by}
use Rattle.spec_points.proofs.Members.{every-from_All, every-map, filter-same}
use Rattle.attr_dict.specs.Book.{shown_names}
use Rattle.page_fmt.specs.Formats.{wide_format}
use Rattle.page_entry.specs.Stored.{IsCoordinate, FitsLeaf}
use Rattle.page_entry.specs.Bytes.{width}
use Rattle.page_entry.proofs.Widths.{fits-wide}
use Rattle.spec_forest.specs.Storable.{AreStorable}
use Rattle.spec_forest.proofs.Leaves.{entries-fit}
use Rattle.forest_root.specs.declared.forest.Store.{Store}
use Rattle.spec_forest.specs.Forest.{tree_entries, view_entries}
use Rattle.spec_store.specs.Held.{AreAccepted}
use Rattle.spec_store.proofs.Schemas.{few_measures, view-short}
use Rattle.spec_store.proofs.Storable.{any-wide, storable}
use Rattle.spec_store.proofs.ViewReads.{points-view}
use Rattle.range_scan.specs.Meeting.{is_inside}
use Rattle.range_scan.proofs.Tests.{inside-from, inside-told}
use Rattle.slice_lang.specs.Agreeing.{SliceAgrees}
use Rattle.view_route.specs.Routes.{IsCovering}
use Rattle.view_region.specs.Regions.{IsPlaced, region_from}
use Rattle.slice_rows.specs.Grouped.{points_inside}
use Rattle.slice_exec.proofs.Agreed.{answers}
use Rattle.slice_exec.proofs.ShownNames.{shown-inside}

-- ---- lists

-- of those that pass a weaker test the same pass the stronger one
pub filter-through : {X : Type 0} (p q : X → Bool) → ((x : X) → p x ≡ true → q x ≡ true) → (xs : List X) → filter p xs ≡ filter p (filter q xs)
filter-through p q only [] = refl
filter-through p q only (x ∷ xs) = elim (cases_Bool (q x)) [
  | inl kept ↦ rw kept (λ i. cond (p x) (x ∷ filter-through p q only xs i) (filter-through p q only xs i))
  | inr lost ↦ elim (cases_Bool (p x)) [
    | inl passes ↦ absurd (true≢false (sym (only x passes) ∙ lost))
    | inr fails ↦ rw lost (rw fails (filter-through p q only xs))
  ]
]

pub filter-map : {X Y : Type 0} (p : Y → Bool) (f : X → Y) (xs : List X) → filter p (map f xs) ≡ map f (filter (λ x. p (f x)) xs)
filter-map p f [] = refl
filter-map p f (x ∷ xs) =
    elim (p (f x)) as (λ b. cond b (f x ∷ filter p (map f xs)) (filter p (map f xs)) ≡ map f (cond b (x ∷ filter (λ y. p (f y)) xs) (filter (λ y. p (f y)) xs)))
    [ true ↦ ap (λ ys. f x ∷ ys) (filter-map p f xs) | false ↦ filter-map p f xs ]

same-truth : (a b : Bool) → (a ≡ true → b ≡ true) → (b ≡ true → a ≡ true) → a ≡ b
same-truth true true there back = refl
same-truth false false there back = refl
same-truth true false there back = absurd (true≢false (sym (there refl)))
same-truth false true there back = absurd (true≢false (sym (back refl)))

-- ---- points of leaves

low-coordinates : (at : List ℕ) → ((i : ℕ) → IsCoordinate true (slice_index at i)) → AllByRecursion (λ c. c ≤ top_coord) at
unfolding width
low-coordinates [] each = tt
low-coordinates (c ∷ at) each = let low = each 0 in (omega (arith, low), low-coordinates at (λ i. each (suc i)))

placed : (shape : Shape) (e : Entry) → FitsLeaf shape e → IsPlaced e.point
placed shape e fits = record { point = fits.point; eight = fits.eight; coordinates = low-coordinates e.point.at (λ i. fits-wide shape.wide (slice_index e.point.at i) (fits.narrow i)) }

-- ---- a view's points

module _ (store : Store) (view : ℕ) (slice : Slice) where
  abbrev schema : Schema
  schema = store.forest.schema

  abbrev attrs : View
  attrs = get_or schema.views view []

  -- the names that slices know
  abbrev shown : Names
  shown = shown_names store.dicts store.shown.at

  abbrev intervals : List Interval
  intervals = region shown slice.conds attrs

  abbrev where_found : Region
  where_found = region_from (length attrs) intervals

  -- the region as it was made
  module _ (made : Region) (attributes : View) (conds : List Cond) (attributes-are : attributes ≡ attrs) (conds-are : conds ≡ slice.conds)
      (made-is : made ≡ region_from (length attributes) (region shown conds attributes)) where
    pub region-is : made ≡ where_found
    region-is = made-is ∙ (λ i. region_from (length (attributes-are i)) (region shown (conds-are i) (attributes-are i)))

    pub agree-is : ((p : Point) → IsPlaced p → IsInside p made ↔ IsTrue (inside (region shown conds attributes) p.at))
        → (p : Point) → IsPlaced p → IsInside p where_found ↔ IsTrue (inside intervals p.at)
    agree-is agree p is =
        subst (λ (r : Region). IsInside p r ↔ IsTrue (inside intervals p.at)) region-is
        (subst (λ (cs : List Cond). IsInside p made ↔ IsTrue (inside (region shown cs attrs) p.at)) conds-are
        (subst (λ (v : View). IsInside p made ↔ IsTrue (inside (region shown conds v) p.at)) attributes-are (agree p is)))

  -- ---- over facts

  module _ (accepted : List Fact) (fine : AreAccepted schema accepted) (named : (a : ℕ) → shown a ≡ names_of accepted a) (agrees : SliceAgrees schema slice)
      (covers : IsCovering schema.views slice view) where
    abbrev low : view < length schema.views
    low = covers.0

    abbrev shape : Shape
    shape = record { dims = length attrs; measures = measure_count schema; wide = true }

    same-names : names_of accepted ≡ shown
    same-names = λ i a. sym (named a) i

    stored : AreStorable wide_format (names_of accepted) (measure_count schema) accepted
    stored = storable schema accepted store.forest.lawful fine wide_format (any-wide accepted)

    fit : All (FitsLeaf shape) (view_entries schema accepted attrs)
    fit = entries-fit shape (names_of accepted) attrs accepted refl (let short = view-short schema store.forest.lawful view low in omega (arith, short)) (few_measures schema store.forest.lawful) stored

    module _ (agree : (p : Point) → IsPlaced p → IsInside p where_found ↔ IsTrue (inside intervals p.at)) where
      same-test : (e : Entry) → FitsLeaf shape e → is_inside where_found e ≡ inside intervals e.point.at
      same-test e fits =
          let both = agree e.point (placed shape e fits) in
          same-truth (is_inside where_found e) (inside intervals e.point.at) (λ is. both.0 (inside-told where_found e is)) (λ is. inside-from where_found e (both.1 is))

      -- what a search of its tree finds are its points in the region
      pub found-points : (es : List Entry) → es ≡ filter (is_inside where_found) (tree_entries schema accepted (tree_of store.forest.mapping (tree_number schema.views view)))
          → es ≡ points_inside store.dicts (measure_count schema) attrs slice accepted
      found-points es is =
          let tree = tree_entries schema accepted (tree_of store.forest.mapping (tree_number schema.views view)) in
          let of_view : Entry → Bool = λ e. e.point.arity == length attrs in
          let own : filter of_view tree ≡ view_entries schema accepted attrs = points-view store.forest view low accepted fine tree refl in
          is
          ∙ (filter-through (is_inside where_found) of_view (λ e told. eq-eqb e.point.arity (length attrs) (inside-told where_found e told).arity) tree
          ∙ (ap (filter (is_inside where_found)) own
          ∙ (filter-same (is_inside where_found) (λ e. inside intervals e.point.at) (view_entries schema accepted attrs)
          (every-map (FitsLeaf shape) (λ e. is_inside where_found e ≡ inside intervals e.point.at) same-test (view_entries schema accepted attrs) (every-from_All (FitsLeaf shape) (view_entries schema accepted attrs) fit))
          ∙ (filter-map (λ (e : Entry). inside intervals e.point.at) entry_of (points_by (names_of accepted) (measure_count schema) attrs accepted)
          ∙ (ap (λ (names : Names). map entry_of (filter (λ (e : PlacedCell). inside intervals e.0) (points_by names (measure_count schema) attrs accepted))) same-names
          ∙ shown-inside store.dicts store.shown.at attrs slice accepted (answers store view slice accepted fine named agrees covers) (measure_count schema)
          (subst (λ (names : Names). AreStorable wide_format names (measure_count schema) accepted) same-names stored))))))
