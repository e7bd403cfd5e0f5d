-- The trees of a schema over facts: their views, the numbers of their points, and their pages.
use Rattle.std.proofs.Common.{◌≡◌, ◌≤◌, ◌<◌, ◌+◌, ◌-◌, ℕ, List, [], Option, Some, None, filter, length, get_or, refl, sym, ap, ◌∙◌, arith, replicate}
use Rattle.std.specs.Prelude.{◌==◌, nat_lt, nat_le, slice_index}
use Rattle.std.specs.List.{AllByRecursion, range_with_len}
use Rattle.std.proofs.lemmas.Bool.{and_parts, ltb-true, leb-true}
use Rattle.std.proofs.lemmas.List.{length-map, get_or-map, get_or_append_left}
use Rattle.std.proofs.lemmas.List.FromFn.{length-range_with_len}
use Rattle.fact_model.specs.declared.fact.Fact.{Fact}
use Rattle.cube_point.specs.declared.point.Entry.{Entry}
use Rattle.cube_schema.specs.declared.schema.Schema.{Schema}
use Rattle.cube_schema.specs.Lawful.{IsSchema}
use Rattle.cube_schema.specs.Kinds.{measure_count}
use Rattle.spec_points.specs.Codes.{names_of}
use Rattle.spec_points.specs.Points.{View, points}
use Rattle.spec_forest.specs.Storable.{AreStorable}
use Rattle.select_map.specs.declared.mapping.Tree.{Tree}
use Rattle.select_map.specs.declared.mapping.Mapping.{Mapping}
use Rattle.select_map.specs.Views.{arity_at, selected, tree_at, tree_count, tree_number, view_in}
use Rattle.select_map.specs.Trees.{numbers_of, views_of}
use Rattle.select_map.specs.Selection.{IsSelection, no_tree, tree_of}
use Rattle.select_map.proofs.TreeViews.{at-view, each-number}
use Rattle.delta_agg.proofs.Rising.{schema-selection, views-rise}
use Rattle.page_fmt.specs.Writing.{IsShape}
use Rattle.forest_root.specs.Forest.{count_in, counts_of, pages_of, shape_of}
use Rattle.forest_root.proofs.Trees.{trees-dims}
use Rattle.tree_pack.specs.Pages.{count_of, pages_of as tree_pages_of}
use Rattle.tree_pack.specs.Packing.{AreTreeViews}
use Rattle.tree_pack.proofs.Whole.{pages-counted}
use Rattle.view_route.specs.Counts.{body_counts, view_counts}
use Rattle.spec_forest.specs.Forest.{tree_entries, view_entries, views_over}
use Rattle.spec_forest.proofs.Trees.{over-tree, over-views}
use Rattle.spec_forest.proofs.Counts.{slot_count, slots-count, slots-filter}

module _ (schema : Schema) (lawful : IsSchema schema) where
  pub some-measures : 1 ≤ measure_count schema
  some-measures = ltb-true 0 (length schema.measures) (and_parts (nat_lt 0 (length schema.measures)) (nat_le (length schema.measures) 4) lawful.some_measures).0

  pub few-measures : measure_count schema ≤ 4
  few-measures = leb-true (length schema.measures) 4 (and_parts (nat_lt 0 (length schema.measures)) (nat_le (length schema.measures) 4) lawful.some_measures).1

  abbrev m : Mapping
  m = selected schema.views

  -- the tree with this number
  abbrev pub tree : ℕ → Tree
  tree t = tree_of (selected schema.views) t

  selection : IsSelection schema.views m
  selection = schema-selection schema m lawful refl

  tree-low : (t : ℕ) → t < length m.trees → (tree t).dims ≤ 8
  tree-low t lt = trees-dims schema m refl t no_tree lt

  pub tree-shape : (format t : ℕ) → t < length m.trees → IsShape (shape_of format schema (tree t))
  tree-shape format t lt = record { dims = tree-low t lt; some = some-measures; measures = few-measures }

  -- no view has more attributes than its tree has dimensions
  pub views-within : (t : ℕ) → AllByRecursion (λ (v : View). length v ≤ (tree t).dims) (views_of schema.views (tree t))
  views-within t = at-view (λ v. length v ≤ (tree t).dims) schema.views (numbers_of (tree t))
      (each-number (λ v. arity_at schema.views v ≤ (tree t).dims) (tree t).view_of
      (λ arity v there. omega (arith, (selection.alone t arity v there).1, selection.largest t arity v there)))

  pub stand : (t i v : ℕ) → get_or (tree t).view_of i None ≡ Some v → (v < length schema.views) × (arity_at schema.views v ≡ 0 + i)
  stand t i v there = let is = selection.alone t i v there in (is.0, omega (arith, is.1))

  nine-slots : (t : ℕ) → t < length m.trees → length (tree t).view_of ≡ 9
  unfolding selected
  nine-slots t lt =
      let count : length (range_with_len 0 (tree_count schema.views)) ≡ tree_count schema.views = length-range_with_len 0 (tree_count schema.views) in
      let is : tree t ≡ tree_at schema.views (get_or (range_with_len 0 (tree_count schema.views)) t 0)
      = get_or-map (tree_at schema.views) (range_with_len 0 (tree_count schema.views)) t 0 no_tree (omega (arith, lt, length-map (range_with_len 0 (tree_count schema.views)) (tree_at schema.views))) in
      ap (λ (x : Tree). length x.view_of) is ∙ length-map (range_with_len 0 9) (view_in schema.views (get_or (range_with_len 0 (tree_count schema.views)) t 0))

  module _ {format : ℕ} (facts : List Fact) (storable : AreStorable format (names_of facts) (measure_count schema) facts) where
    -- the views of a tree over facts, and all their points
    pub tree-views : (t : ℕ) → t < length m.trees → AreTreeViews (shape_of format schema (tree t)) (views_over schema facts (tree t)) (tree_entries schema facts (tree t))
    tree-views t lt = record {
      fit = over-views (names_of facts) schema facts (shape_of format schema (tree t)) refl refl few-measures storable (views_of schema.views (tree t)) (views-rise schema m lawful refl t);
      join = refl;
      points = over-tree (names_of facts) schema facts (shape_of format schema (tree t)) refl refl few-measures storable (views_of schema.views (tree t)) (views-rise schema m lawful refl t) (views-within t);
    }

    -- the body counts the points of each view
    pub view-counted : (v : ℕ) → v < length schema.views → slice_index (body_counts schema facts) v ≡ length (points (measure_count schema) (get_or schema.views v []) facts)
    view-counted v lt =
        get_or_append_left (view_counts schema facts) (replicate (32 - length schema.views) 0) 0 v (omega (arith, lt, length-map schema.views (λ view. length (points (measure_count schema) view facts))))
        ∙ get_or-map (λ view. length (points (measure_count schema) view facts)) schema.views v [] 0 lt

    -- of each arity a tree has the points that the body counts for it
    pub tree-counted : (t arity : ℕ) → t < length m.trees → arity < 9
        → count_of arity (tree_entries schema facts (tree t)) ≡ slice_index (counts_of (body_counts schema facts) (tree t)) arity
    tree-counted t arity lt low =
        let zero-first : arity ≡ 0 + arity = omega arith in
        ap (λ a. count_of a (tree_entries schema facts (tree t))) zero-first
        ∙ (slots-count (names_of facts) schema facts storable 0 arity (tree t).view_of (stand t)
        ∙ (by (get_or (tree t).view_of arity None) refl
        ∙ sym (get_or-map (count_in (body_counts schema facts)) (tree t).view_of arity None 0 (omega (arith, low, nine-slots t lt)))))
      where
        by : (o : Option ℕ) → get_or (tree t).view_of arity None ≡ o → slot_count (names_of facts) schema facts storable o ≡ count_in (body_counts schema facts) o
        by None is = refl
        by (Some v) is = sym (view-counted v (stand t arity v is).0)

    -- the points of a view are those of its arity in its tree
    pub view-of-tree : (v : ℕ) → v < length schema.views
        → filter (λ (e : Entry). e.point.arity == length (get_or schema.views v [])) (tree_entries schema facts (tree (tree_number schema.views v)))
        ≡ view_entries schema facts (get_or schema.views v [])
    view-of-tree v lt =
        let zero-first : length (get_or schema.views v []) ≡ 0 + length (get_or schema.views v []) = omega arith in
        ap (λ a. filter (λ (e : Entry). e.point.arity == a) (tree_entries schema facts (tree (tree_number schema.views v)))) zero-first
        ∙ slots-filter (names_of facts) schema facts storable 0 (length (get_or schema.views v [])) v (tree (tree_number schema.views v)).view_of (stand (tree_number schema.views v)) (selection.placed v lt)

    -- a tree has the pages that the body's numbers of points tell
    pub pages-told : (t first : ℕ) → t < length m.trees → length (tree_pages_of (shape_of format schema (tree t)) first (views_over schema facts (tree t))) ≡ pages_of format schema (body_counts schema facts) (tree t)
    pages-told t first lt = pages-counted (shape_of format schema (tree t)) (tree-shape format t lt) (views_over schema facts (tree t)) (tree_entries schema facts (tree t)) (tree-views t lt) first
        (counts_of (body_counts schema facts) (tree t)) (λ arity low. sym (tree-counted t arity lt low))
