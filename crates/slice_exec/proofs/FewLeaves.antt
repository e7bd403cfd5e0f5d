-- Where the last attribute of a view alone is bound, the search for a slice goes to few leaves of the forest.
use Rattle.std.proofs.Common.{◌≡◌, ◌<◌, ◌≤◌, ◌+◌, ◌-◌, ◌/◌, ◌==◌, ◌&&◌, inl, inr, nat_le, ℕ, zero, suc, Bool, true, false, cond, min, List, [], ◌∷◌, ◌++◌, filter, get_or, length, map, replicate, take, Option, Some, None, refl, sym, ap, ◌∙◌, subst, arith, true≢false, length-append}
use Rattle.std.specs.Prelude.{slice_index}
use Rattle.std.specs.List.{AllByRecursion}
use Rattle.std.proofs.Math.Nat.{div-add-mod'}
use Rattle.std.proofs.lemmas.Nat.{le-div}
use Rattle.std.proofs.lemmas.Bool.{and_from, cases_Bool, eq-eqb, eqb-true, le-leb, leb-true, ne_eqb}
use Rattle.std.proofs.lemmas.List.Sums.{sum_by-take-drop}
use Rattle.std.proofs.lemmas.List.{get_or-append_right, get_or-map, get_or-replicate, get_or_append_left, length-map, length-replicate, take_all}
use Rattle.fact_model.specs.declared.fact.Fact.{Fact}
use Rattle.fact_model.specs.declared.fact.Value.{Value}
use Rattle.fact_model.specs.declared.slice.Cond.{Cond}
use Rattle.fact_model.specs.declared.slice.Cond.TheVariants.{Equal, Between}
use Rattle.fact_model.specs.declared.slice.Slice.{Slice}
use Rattle.fact_model.specs.Slice.{attr_of}
use Rattle.cube_point.specs.declared.bounds.Region.{Region}
use Rattle.cube_point.specs.declared.point.Entry.{Entry}
use Rattle.cube_point.specs.declared.point.Shape.{Shape}
use Rattle.cube_schema.specs.declared.schema.Schema.{Schema}
use Rattle.cube_schema.specs.Kinds.{measure_count}
use Rattle.cube_schema.specs.Lawful.{IsSchema}
use Rattle.delta_agg.proofs.Rising.{schema-selection}
use Rattle.select_map.specs.declared.mapping.Mapping.{Mapping}
use Rattle.select_map.specs.Views.{selected, tree_number}
use Rattle.spec_points.specs.Answer.{Interval, codes_of, inside, interval, just, nothing, region, top_coord, within}
use Rattle.spec_points.specs.Codes.{Text, code_in, names_of}
use Rattle.spec_points.specs.Entries.{entry_of}
use Rattle.spec_points.specs.Points.{Names, PlacedCell, View, points}
use Rattle.spec_points.proofs.Codes.{code-positive}
use Rattle.spec_points.proofs.Members.{every-from_All}
use Rattle.page_fmt.specs.declared.page.Place.{Place}
use Rattle.page_fmt.specs.Trees.{room_of}
use Rattle.page_fmt.specs.Formats.{is_wide}
use Rattle.page_entry.specs.Stored.{FitsLeaf, IsCoordinate}
use Rattle.page_fmt.specs.Writing.{IsShape}
use Rattle.page_entry.specs.Bytes.{width}
use Rattle.page_fmt.proofs.Rooms.{room-many}
use Rattle.page_entry.proofs.Widths.{fits-wide}
use Rattle.tree_pack.specs.Packing.{max_first}
use Rattle.spec_forest.specs.Storable.{AreStorable}
use Rattle.spec_forest.proofs.Leaves.{entries-fit}
use Rattle.view_route.specs.Counts.{body_counts}
use Rattle.spec_forest.specs.Forest.{forest, tree_entries, view_entries, views_over}
use Rattle.spec_forest.proofs.Bounds.{pages-within}
use Rattle.spec_forest.proofs.Scanned.{counts-few, few-views, tree-there}
use Rattle.spec_forest.proofs.Selected.{few-measures, pages-told, tree, tree-shape, tree-views, view-of-tree}
use Rattle.forest_root.specs.Forest.{pages_of, pages_of_all}
use Rattle.spec_store.specs.Held.{AreAccepted, FitsFormat}
use Rattle.spec_store.proofs.Schemas.{view-short}
use Rattle.spec_store.proofs.Storable.{storable}
use Rattle.range_scan.specs.Meeting.{is_inside}
use Rattle.range_scan.specs.Packed.{HoldsTree}
use Rattle.range_scan.proofs.Tests.{inside-told}
use Rattle.view_region.specs.Regions.{clamped, region_from}
use Rattle.replica_route.specs.Together.{matching}
use Rattle.replica_route.proofs.Bound.{AreApart, IsFree, free-interval}
use Rattle.replica_route.proofs.Told.{view-apart}
use Rattle.spec_leaves.specs.Leaves.{IsLastBound, leaves_among, most_leaves}
use Rattle.spec_leaves.proofs.Packed.{leaves-few}
use Rattle.spec_leaves.proofs.Touched.{passing-fewer}
use Rattle.slice_exec.specs.Costs.{region_over, tree_over, visits_over}
use Rattle.slice_exec.specs.Leaves.{BindsLast}
use Rattle.slice_exec.proofs.Found.{filter-map, filter-through}

-- ---- intervals

interval-low : (ns : Names) (conds : List Cond) (a : ℕ) → 1 ≤ (interval ns conds a).0
interval-low ns [] a = omega arith
interval-low ns (c ∷ conds) a = elim (attr_of c == a) as (λ b. 1 ≤ (cond {A = Interval} b (codes_of (ns a) c) (interval ns conds a)).0) [ true ↦ codes-low (ns a) c | false ↦ interval-low ns conds a ]
  where
    just-low : (ts : List Text) (v : Value) (o : Option ℕ) → code_in ts v ≡ o → 1 ≤ (just o).0
    just-low ts v None e = omega arith
    just-low ts v (Some c) e = code-positive ts v c e

    codes-low : (ts : List Text) (c : Cond) → 1 ≤ (codes_of ts c).0
    codes-low ts (Equal a v) = just-low ts v (code_in ts v) refl
    codes-low ts (Between a low high) = elim (nat_le low high) as (λ b. 1 ≤ (cond {A = Interval} b (suc low, suc high) nothing).0) [ true ↦ omega arith | false ↦ omega arith ]

clamped-low : (i : Interval) → 1 ≤ i.0 → 1 ≤ (clamped i).0
clamped-low i some = elim (nat_le i.0 top_coord) as (λ b. 1 ≤ (cond {A = Interval} b (i.0, min i.1 top_coord) nothing).0) [ true ↦ some | false ↦ omega arith ]

-- what lies in the interval clamped lies in it
clamped-in : (i : Interval) (c : ℕ) → (clamped i).0 ≤ c → c ≤ (clamped i).1 → within i c ≡ true
clamped-in i c = by (nat_le i.0 top_coord)
  where
    by : (b : Bool) → (cond {A = Interval} b (i.0, min i.1 top_coord) nothing).0 ≤ c → c ≤ (cond {A = Interval} b (i.0, min i.1 top_coord) nothing).1 → within i c ≡ true
    by true low high = and_from (nat_le i.0 c) (nat_le c i.1) (le-leb i.0 c low) (le-leb c i.1 (omega (arith, high)))
    by false low high = absurd (omega (arith, low, high))

inside-each : (is : List Interval) (cs : List ℕ) → length is ≡ length cs → ((k : ℕ) → k < length is → within (get_or is k (0, 0)) (get_or cs k 0) ≡ true) → inside is cs ≡ true
inside-each [] [] same h = refl
inside-each [] (c ∷ cs) same h = absurd (omega (arith, same))
inside-each (i ∷ is) [] same h = absurd (omega (arith, same))
inside-each (i ∷ is) (c ∷ cs) same h = and_from (within i c) (inside is cs) (h 0 (omega arith)) (inside-each is cs (omega (arith, same)) (λ k lt. h (suc k) (omega (arith, lt))))

-- ---- conditions on the last attribute

free-other : (conds : List Cond) (a b : ℕ) → (b == a) ≡ false → AllByRecursion (λ c. (attr_of c == b) ≡ true) conds → IsFree conds a
free-other [] a b other h = tt
free-other (c ∷ conds) a b other h = (ap (λ n. n == a) (eqb-true (attr_of c) b h.0) ∙ other, free-other conds a b other h.1)

apart-at : (ats : List ℕ) → AreApart ats → (i j : ℕ) → i < j → j < length ats → (get_or ats j 0 == get_or ats i 0) ≡ false
apart-at [] h i j low lt = absurd (omega (arith, lt))
apart-at (a ∷ ats) h i zero low lt = absurd (omega (arith, low))
apart-at (a ∷ ats) h zero (suc j) low lt = turned a (get_or ats j 0) (at ats j h.0 (omega (arith, lt)))
  where
    at : (bs : List ℕ) (k : ℕ) → AllByRecursion (λ b. (a == b) ≡ false) bs → k < length bs → (a == get_or bs k 0) ≡ false
    at [] k h lt = absurd (omega (arith, lt))
    at (b ∷ bs) zero h lt = h.0
    at (b ∷ bs) (suc k) h lt = at bs k h.1 (omega (arith, lt))

    turned : (x y : ℕ) → (x == y) ≡ false → (y == x) ≡ false
    turned x y not = elim (cases_Bool (y == x)) [
      | inl is ↦ absurd (true≢false (sym (eq-eqb x y (sym (eqb-true y x is))) ∙ not))
      | inr other ↦ other
    ]
apart-at (a ∷ ats) h (suc i) (suc j) low lt = apart-at ats h.1 i j (omega (arith, low)) (omega (arith, lt))

module _ (format : ℕ) (schema : Schema) (lawful : IsSchema schema) (facts : List Fact) (fine : AreAccepted schema facts) (fits : FitsFormat format facts) (s : Slice) (view : ℕ) (low : view < length schema.views)
    (binds : BindsLast (get_or schema.views view []) s.conds) where
  abbrev attrs : View
  attrs = get_or schema.views view []

  abbrev j : ℕ
  j = binds.last

  abbrev ns : Names
  ns = names_of facts

  abbrev intervals : List Interval
  intervals = region ns s.conds attrs

  abbrev found_in : Region
  found_in = region_over schema facts s view

  short : length attrs ≤ 8
  short = let few = view-short schema lawful view low in omega (arith, few)

  at-used : (i : ℕ) → i < length attrs → get_or intervals i (0, 0) ≡ interval ns s.conds (get_or attrs i 0)
  at-used i lt = get_or_append_left (map (interval ns s.conds) attrs) (replicate (8 - length attrs) (0, 0)) (0, 0) i (omega (arith, lt, length-map attrs (interval ns s.conds)))
      ∙ get_or-map (interval ns s.conds) attrs i 0 (0, 0) lt

  zeros : (n i : ℕ) → ◌≡◌ {A = Interval} (get_or {A = Interval} (replicate {A = Interval} n (0, 0)) i (0, 0)) (0, 0)
  zeros zero i = refl
  zeros (suc n) zero = refl
  zeros (suc n) (suc i) = zeros n i

  at-past : (i : ℕ) → length attrs ≤ i → get_or intervals i (0, 0) ≡ (0, 0)
  at-past i past = get_or-append_right (map (interval ns s.conds) attrs) (replicate (8 - length attrs) (0, 0)) (length attrs) i (0, 0) (length-map attrs (interval ns s.conds)) past
      ∙ zeros (8 - length attrs) (i - length attrs)

  eight : length intervals ≡ 8
  eight = omega (arith, length-append (map (interval ns s.conds) attrs) (replicate (8 - length attrs) (0, 0)), length-map attrs (interval ns s.conds), length-replicate {A = Interval} (8 - length attrs) (0, 0), short)

  low-at : (i : ℕ) → i < 8 → slice_index found_in.bounds.low i ≡ (clamped (get_or intervals i (0, 0))).0
  low-at i lt = get_or-map (λ (i : Interval). (clamped i).0) intervals i (0, 0) 0 (omega (arith, lt, eight))

  high-at : (i : ℕ) → i < 8 → slice_index found_in.bounds.high i ≡ (clamped (get_or intervals i (0, 0))).1
  high-at i lt = get_or-map (λ (i : Interval). (clamped i).1) intervals i (0, 0) 0 (omega (arith, lt, eight))

  free : (i : ℕ) → i < j → get_or intervals i (0, 0) ≡ (1, top_coord)
  free i below =
      let used : i < length attrs = omega (arith, below, binds.long) in
      at-used i used
      ∙ free-interval ns s.conds (get_or attrs i 0)
      (free-other s.conds (get_or attrs i 0) (get_or attrs j 0) (apart-at attrs (view-apart schema lawful view low) i j below (omega (arith, binds.long))) binds.only)

  open-wide : (c : ℕ) → IsCoordinate (is_wide format) c → c ≤ top_coord
  unfolding width
  open-wide c is = let low = fits-wide (is_wide format) c is in omega (arith, low)

  last-bound : IsLastBound (is_wide format) j found_in
  last-bound = record {
    few = omega (arith, short, binds.long);
    arity = binds.long;
    before = λ i below.
        let few : i < 8 = omega (arith, below, short, binds.long) in
        let from : (clamped (get_or intervals i (0, 0))).0 ≡ 1 = ap (λ (k : Interval). (clamped k).0) (free i below) in
        let to : (clamped (get_or intervals i (0, 0))).1 ≡ top_coord = ap (λ (k : Interval). (clamped k).1) (free i below) in
        (omega (arith, low-at i few, from), λ c is. let low = open-wide c is in omega (arith, high-at i few, to, low));
    last =
        let few : j < 8 = omega (arith, short, binds.long) in
        let some = clamped-low (interval ns s.conds (get_or attrs j 0)) (interval-low ns s.conds (get_or attrs j 0)) in
        omega (arith, low-at j few, ap (λ (k : Interval). (clamped k).0) (at-used j (omega (arith, binds.long))), some);
    past = λ i beyond few.
        let none : get_or intervals i (0, 0) ≡ (0, 0) = at-past i (omega (arith, beyond, binds.long)) in
        (low-at i few ∙ ap (λ (k : Interval). (clamped k).0) none, high-at i few ∙ ap (λ (k : Interval). (clamped k).1) none);
  }

  -- ---- the tree of the view

  abbrev stored : AreStorable format ns (measure_count schema) facts
  stored = storable schema facts lawful fine format fits

  abbrev t : ℕ
  t = tree_number schema.views view

  there : t < length (selected schema.views).trees
  there = (schema-selection schema (selected schema.views) lawful refl).valid.within view low

  first-low : pages_of_all format schema (body_counts schema facts) (take t (selected schema.views).trees) ≤ max_first
  first-low = omega (
    arith,
    pages-within format schema lawful (body_counts schema facts) (counts-few schema facts stored.few) (few-views schema lawful),
    sum_by-take-drop (pages_of format schema (body_counts schema facts)) (selected schema.views).trees t,
  )

  abbrev own : Place
  own = tree_over format schema facts view

  abbrev entries : List Entry
  entries = tree_entries schema facts (tree schema lawful t)

  holds : HoldsTree own (forest format schema facts) entries
  holds = record {
    views = views_over schema facts (tree schema lawful t);
    are_views = tree-views schema lawful facts stored t there;
    count = pages-told schema lawful facts stored t own.first there;
    bytes_are = tree-there schema lawful facts stored t there (forest format schema facts) (take_all (length (forest format schema facts)) (forest format schema facts) (omega arith));
  }

  -- ---- its points

  abbrev shape : Shape
  shape = record { dims = length attrs; measures = measure_count schema; wide = is_wide format }

  fit : AllByRecursion (FitsLeaf shape) (view_entries schema facts attrs)
  fit = every-from_All (FitsLeaf shape) (view_entries schema facts attrs) (entries-fit shape ns attrs facts refl short (few-measures schema lawful) stored)

  met-inside : (e : Entry) → FitsLeaf shape e → is_inside found_in e ≡ true → inside intervals e.point.at ≡ true
  met-inside e fits is =
      let place = (inside-told found_in e is).place in
      inside-each intervals e.point.at (eight ∙ sym fits.eight) (λ k lt.
      let few : k < 8 = omega (arith, lt, eight) in
      clamped-in (get_or intervals k (0, 0)) (get_or e.point.at k 0) (omega (arith, low-at k few, (place k few).0)) (omega (arith, high-at k few, (place k few).1)))

  each-inside : (es : List Entry) → AllByRecursion (FitsLeaf shape) es → AllByRecursion (λ e. is_inside found_in e ≡ true → inside intervals e.point.at ≡ true) es
  each-inside [] h = tt
  each-inside (e ∷ es) h = (met-inside e h.0, each-inside es h.1)

  few-found : length (filter (is_inside found_in) entries) ≤ length (matching (measure_count schema) attrs s.conds facts)
  few-found =
      let of_view : Entry → Bool = λ e. e.point.arity == length attrs in
      let view_is : filter of_view entries ≡ view_entries schema facts attrs = view-of-tree schema lawful facts stored view low in
      let through = filter-through (is_inside found_in) of_view (λ e told. eq-eqb e.point.arity (length attrs) (inside-told found_in e told).arity) entries in
      let fewer = passing-fewer (is_inside found_in) (λ (e : Entry). inside intervals e.point.at) (view_entries schema facts attrs) (each-inside (view_entries schema facts attrs) fit) in
      let mapped = filter-map (λ (e : Entry). inside intervals e.point.at) entry_of (points (measure_count schema) attrs facts) in
      omega (
        arith,
        ap length through,
        ap (λ es. length (filter (is_inside found_in) es)) view_is,
        fewer,
        ap length mapped,
        length-map (matching (measure_count schema) attrs s.conds facts) entry_of,
      )

  -- the leaves of the forest that the search for the slice goes to
  pub few-leaves : length (leaves_among own (forest format schema facts) (visits_over format schema facts s view))
      ≤ most_leaves (length (matching (measure_count schema) attrs s.conds facts)) (room_of own.shape (length attrs))
  few-leaves =
      let room = room_of own.shape (length attrs) in
      let many = room-many (length attrs) own.shape short (few-measures schema lawful) in
      let some : 0 < room = omega (arith, many) in
      let found = length (filter (is_inside found_in) entries) in
      let least : length (leaves_among own (forest format schema facts) (visits_over format schema facts s view)) ≤ most_leaves found room
      = subst (λ n. length (leaves_among own (forest format schema facts) (visits_over format schema facts s view)) ≤ most_leaves found (room_of own.shape n)) (sym binds.long)
      (leaves-few own (tree-shape schema lawful format t there) first-low found_in (forest format schema facts) entries holds j last-bound (subst (λ n. 0 < room_of own.shape n) binds.long some)) in
      omega (arith, least, most-more (length (filter (is_inside found_in) entries)) (length (matching (measure_count schema) attrs s.conds facts)) room some few-found)
    where
      div-up : (a b k : ℕ) → 0 < k → a ≤ b → a / k ≤ b / k
      div-up a b k pos le = le-div (a / k) b k pos (omega (arith, div-add-mod' a k, le))

      most-more : (m n room : ℕ) → 0 < room → m ≤ n → most_leaves m room ≤ most_leaves n room
      most-more m n room pos le = omega (arith, div-up (m + room - 2) (n + room - 2) room pos (omega (arith, le)))
