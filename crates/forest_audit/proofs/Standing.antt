-- Files that keep facts: the trees of these facts keep the rules of pages.
use Rattle.std.proofs.Common.{◌≡◌, ◌≤◌, ◌<◌, ◌+◌, ℕ, List, [], Option, Some, None, get_or, length, map, take, refl, ap, sym, ◌∙◌, arith, subst}
use Rattle.std.specs.Prelude.{flat_map, replicate, slice_index}
use Rattle.std.specs.List.{All, range_with_len}
use Rattle.std.proofs.lemmas.List.{get_or-map, length-map}
use Rattle.std.proofs.lemmas.List.Sums.{sum_by-take-drop}
use Rattle.site_core.specs.Disk.{Files}
use Rattle.attr_dict.specs.Admitting.{Agrees}
use Rattle.attr_dict.specs.Book.{Book, HoldsNamesOf, no_names}
use Rattle.attr_dict.proofs.Kept.{all-agree}
use Rattle.cube_point.specs.declared.point.Entry.{Entry}
use Rattle.cube_point.specs.declared.point.Shape.{Shape}
use Rattle.cube_schema.specs.Kinds.{measure_count}
use Rattle.cube_schema.specs.Lawful.{IsSchema}
use Rattle.cube_schema.specs.declared.schema.Schema.{Schema}
use Rattle.fact_model.specs.declared.fact.Fact.{Fact}
use Rattle.view_route.specs.Counts.{body_counts}
use Rattle.spec_forest.specs.Forest.{forest, tree_entries, views_over}
use Rattle.spec_forest.proofs.Bounds.{pages-within}
use Rattle.spec_forest.proofs.Bytes.{tree-lawful}
use Rattle.spec_forest.proofs.Scanned.{counts-few, few-views, tree-good, tree-stands}
use Rattle.spec_forest.proofs.Selected.{pages-told, stand, tree, tree-shape, view-counted}
use Rattle.forest_root.specs.Forest.{count_in, counts_of, pages_of, pages_of_all, shape_of}
use Rattle.forest_root.specs.declared.body.Body.{Body}
use Rattle.spec_store.specs.Held.{AreAccepted, IsLive}
use Rattle.spec_store.proofs.Places.{nine-in}
use Rattle.spec_store.proofs.Storable.{storable}
use Rattle.leaf_pack.specs.Leaf.{arity_of}
use Rattle.spec_forest.specs.Storable.{AreStorable}
use Rattle.page_fmt.specs.declared.page.Place.{Place}
use Rattle.page_fmt.specs.Trees.{room_of}
use Rattle.select_map.proofs.Selected.{schema-short}
use Rattle.audit_tree.specs.Numbers.{cut, views_of}
use Rattle.audit_tree.proofs.Arities.{run}
use Rattle.audit_tree.specs.Packed.{IsAuditedTree, IsWithin, packed_pages, pages_in, points_in}
use Rattle.tree_pack.specs.Packing.{max_first}
use Rattle.tree_pack.specs.Pages.{page_bytes, pages_of as tree_pages_of}
use Rattle.spec_points.specs.Codes.{names_of}
use Rattle.spec_points.specs.Points.{points}
use Rattle.spec_points.proofs.Members.{All-from_every}
use Rattle.forest_audit.specs.Audited.{TreeKeeps, side_file, tree_place, trees_of}
use Rattle.forest_audit.specs.Limits.{limits_in, view_limits}
use Rattle.forest_audit.proofs.Contents.{pages-there}
use Rattle.forest_audit.proofs.Limited.{row, slots-within}
use Rattle.forest_audit.proofs.Slots.{all_runs, pages-same, slot_entries, slots-arities, slots-runs}

module _ (schema : Schema) (lawful : IsSchema schema) (facts : List Fact) (accepted : AreAccepted schema facts) (body : Body) (files : Files) (live : IsLive schema body facts files) where
  abbrev pub stored : AreStorable body.format (names_of facts) (measure_count schema) facts
  stored = storable schema facts lawful accepted body.format live.fits

  abbrev bytes : List ℕ
  bytes = files (side_file body)

  -- the side begins with their forest
  pub stands : take (length (forest body.format schema facts)) bytes ≡ forest body.format schema facts
  stands = subst (λ s. take (length (forest body.format schema facts)) (files (2 + s)) ≡ forest body.format schema facts) (sym live.at.decodes.1.within.side) live.at.forest

  abbrev counts : List ℕ
  counts = body_counts schema facts

  first-low : (t : ℕ) → pages_of_all body.format schema counts (take t (trees_of schema)) ≤ max_first
  first-low t = omega (
    arith,
    pages-within body.format schema lawful counts (counts-few schema facts stored.few) (few-views schema lawful),
    sum_by-take-drop (pages_of body.format schema counts) (trees_of schema) t,
  )

  module _ (t : ℕ) (lt : t < length (trees_of schema)) where
    abbrev slots : List (Option ℕ)
    slots = (tree schema lawful t).view_of

    abbrev shape : Shape
    shape = shape_of body.format schema (tree schema lawful t)

    abbrev first : ℕ
    first = pages_of_all body.format schema counts (take t (trees_of schema))

    abbrev many : ℕ
    many = pages_of body.format schema counts (tree schema lawful t)

    abbrev numbers : List ℕ
    numbers = counts_of counts (tree schema lawful t)

    abbrev all : List Entry
    all = tree_entries schema facts (tree schema lawful t)

    nine : length slots ≡ 9
    nine = nine-in schema.views t lt

    -- each slot has as many points as the body counts
    counted : (i : ℕ) → i < length slots → slice_index numbers (0 + i) ≡ length (slot_entries schema facts stored (get_or slots i None))
    counted i low =
        let zero-first : 0 + i ≡ i = omega arith in
        ap (slice_index numbers) zero-first ∙ (get_or-map (count_in counts) slots i None 0 low ∙ by (get_or slots i None) refl)
      where
        by : (o : Option ℕ) → get_or slots i None ≡ o → count_in counts o ≡ length (slot_entries schema facts stored o)
        by None is = refl
        by (Some v) is = view-counted schema lawful facts stored v (stand schema lawful t i v is).0 ∙ sym (length-map (points (measure_count schema) (get_or schema.views v []) facts) _)

    -- where the tree stands, by these numbers of points
    abbrev place_by : List ℕ → Place
    place_by numbers_of_points = record {
      file = side_file body;
      first = pages_of_all body.format schema numbers_of_points (take t (trees_of schema));
      pages = pages_of body.format schema numbers_of_points (tree schema lawful t);
      shape = shape;
    }

    -- the side has the tree's points
    points-there : points_in (place_by counts) bytes many ≡ all
    points-there = (tree-good schema lawful facts stored t lt bytes stands).1

    by-slots : (n : ℕ) → length slots ≡ n → map arity_of all ≡ flat_map (λ (c : ℕ × ℕ). replicate c.1 c.0) (map (λ a. (a, slice_index numbers a)) (range_with_len 0 n))
    by-slots n is = slots-arities schema facts stored (slice_index numbers) 0 slots (stand schema lawful t) counted ∙ ap (run (slice_index numbers) 0) is

    cut-slots : (n : ℕ) → length slots ≡ n → all_runs (room_of shape) (cut (map (λ a. (a, slice_index numbers a)) (range_with_len 0 n)) all) ≡ all_runs (room_of shape) (views_over schema facts (tree schema lawful t))
    cut-slots n is =
        ap (λ (k : ℕ). all_runs (room_of shape) (cut (map (λ a. (a, slice_index numbers a)) (range_with_len 0 k)) all)) (sym is)
        ∙ slots-runs schema facts stored (room_of shape) (slice_index numbers) 0 slots (stand schema lawful t) counted

    -- and its pages are the packing of these
    pages-are : pages_in (place_by counts) bytes many ≡ packed_pages (place_by counts) numbers all
    pages-are =
        pages-there shape (tree-shape schema lawful body.format t lt) bytes first many (tree_pages_of shape first (views_over schema facts (tree schema lawful t)))
        (tree-lawful schema lawful facts stored t first lt (first-low t)) (tree-stands schema lawful facts stored t lt bytes stands) (pages-told schema lawful facts stored t first lt)
        ∙ ap (map (page_bytes shape)) (pages-same shape first (views_over schema facts (tree schema lawful t)) (views_of numbers all) (sym (cut-slots 9 nine)))

    module _ (names : Book) (named : HoldsNamesOf names facts) where
      abbrev limits : List (List ℕ)
      limits = limits_in schema names t

      agree : All (Agrees (no_names schema).kinds) facts
      agree = all-agree schema facts accepted.each

      has-row : (i v : ℕ) → get_or slots i None ≡ Some v → get_or limits (length (get_or schema.views v [])) [] ≡ row schema names facts agree named (get_or schema.views v [])
      has-row i v is =
          let stands-in = stand schema lawful t i v is in
          let at : length (get_or schema.views v []) ≡ i = omega (arith, stands-in.1) in
          let low : i < length slots = omega (arith, schema-short schema lawful v stands-in.0, stands-in.1, nine) in
          ap (λ (a : ℕ). get_or limits a []) at ∙ (get_or-map (view_limits schema names) slots i None [] low ∙ ap (view_limits schema names) is)

      all-within : All (IsWithin limits) all
      all-within = All-from_every (IsWithin limits) all (slots-within schema names facts agree named stored limits slots has-row)

      abbrev KeepsBy : List ℕ → Type 0
      KeepsBy numbers_of_points = IsAuditedTree (place_by numbers_of_points) (counts_of numbers_of_points (tree schema lawful t)) limits bytes

      by-facts : KeepsBy counts
      by-facts = record {
        good = (tree-good schema lawful facts stored t lt bytes stands).0;
        within = subst (All (IsWithin limits)) (sym points-there) all-within;
        numbers = ap (map arity_of) points-there ∙ by-slots 9 nine;
        pages = pages-are ∙ ap (packed_pages (place_by counts) numbers) (sym points-there);
      }

      -- so the tree keeps the rules of pages
      pub tree-keeps : TreeKeeps files body schema names t
      tree-keeps = subst KeepsBy (sym live.at.body_is.counts) by-facts

    -- and the points of its views are those of the facts
    pub tree-points : points_in (tree_place body schema t) bytes (tree_place body schema t).pages ≡ all
    tree-points = subst (λ (c : List ℕ). points_in (place_by c) bytes (place_by c).pages ≡ all) (sym live.at.body_is.counts) points-there
