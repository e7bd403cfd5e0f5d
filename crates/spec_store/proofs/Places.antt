-- Where the trees of a generation lie, whatever numbers its body tells.
use Rattle.std.proofs.Common.{◌≡◌, ◌≤◌, ◌<◌, ◌+◌, ◌^◌, ℕ, List, [], ◌∷◌, ◌++◌, length, take, get_or, sum_by, inl, inr, sym, ap, ◌∙◌, subst, arith}
use Rattle.std.specs.Prelude.{nat_lt, slice_index}
use Rattle.std.specs.List.{range_with_len}
use Rattle.std.proofs.lemmas.Bool.{cases_Bool}
use Rattle.std.proofs.lemmas.Bool.Decides.{nat_tests}
use Rattle.std.proofs.lemmas.List.{get_or-map, get_or_past, length-map, take_more}
use Rattle.std.proofs.lemmas.List.Sums.{sum_by-append, sum_by-cons}
use Rattle.std.proofs.lemmas.List.FromFn.{length-range_with_len}
use Rattle.page_fmt.specs.Writing.{IsShape}
use Rattle.select_map.specs.declared.mapping.Mapping.{Mapping}
use Rattle.select_map.specs.declared.mapping.Tree.{Tree}
use Rattle.select_map.specs.Views.{View, selected, tree_at, tree_count, view_in}
use Rattle.select_map.specs.Selection.{IsSelection, no_tree, tree_of}
use Rattle.delta_agg.proofs.Rising.{schema-selection}
use Rattle.forest_root.specs.declared.forest.Forest.{Forest}
use Rattle.forest_root.specs.Forest.{pages_of, pages_of_all, place_of, shape_of}
use Rattle.forest_root.proofs.Trees.{trees-few}
use Rattle.spec_forest.proofs.Bounds.{pages-few, pages-within, place-within}
use Rattle.spec_forest.proofs.Selected.{tree-shape}
use Rattle.spec_store.specs.Sides.{page_total}
use Rattle.spec_store.proofs.Schemas.{few_views}

pub nine-in : (views : List View) (t : ℕ) → t < length (selected views).trees → length (tree_of (selected views) t).view_of ≡ 9
unfolding selected
nine-in views t lt =
    let count : length (range_with_len 0 (tree_count views)) ≡ tree_count views = length-range_with_len 0 (tree_count views) in
    let is : tree_of (selected views) t ≡ tree_at views (get_or (range_with_len 0 (tree_count views)) t 0)
    = get_or-map (tree_at views) (range_with_len 0 (tree_count views)) t 0 no_tree (omega (arith, lt, length-map (range_with_len 0 (tree_count views)) (tree_at views))) in
    ap (λ (x : Tree). length x.view_of) is ∙ length-map (range_with_len 0 9) (view_in views (get_or (range_with_len 0 (tree_count views)) t 0))

module _ (forest : Forest) where
  -- no number of points is above the facts
  pub body-few : (i : ℕ) → slice_index forest.body.counts i ≤ forest.body.facts
  body-few i = elim (cases_Bool (nat_lt i (length forest.body.counts))) [
    | inl low ↦ (let there : i < length forest.body.counts = grind (arith, nat_tests) in forest.within.each_count.few i there)
    | inr past ↦ (let beyond : length forest.body.counts ≤ i = grind (arith, nat_tests) in omega (arith, get_or_past forest.body.counts i 0 beyond))
  ]

  few-counts : (i : ℕ) → slice_index forest.body.counts i ≤ 2 ^ 40
  few-counts i = omega (arith, body-few i, forest.within.within.facts)

  pub total : pages_of_all forest.body.format forest.schema forest.body.counts forest.mapping.trees ≡ page_total forest.body forest.schema
  total = ap (λ (m : Mapping). pages_of_all forest.body.format forest.schema forest.body.counts m.trees) forest.mapped

  -- no side has more than 2^50 pages
  pub total-few : page_total forest.body forest.schema ≤ 2 ^ 50
  total-few = pages-within forest.body.format forest.schema forest.lawful forest.body.counts few-counts (few_views forest.schema forest.lawful)

  pub selection : IsSelection forest.schema.views forest.mapping
  selection = schema-selection forest.schema forest.mapping forest.lawful forest.mapped

  pub few-trees : length forest.mapping.trees ≤ 32
  few-trees = omega (arith, trees-few forest.schema forest.mapping forest.lawful forest.mapped, few_views forest.schema forest.lawful)

  module _ (t : ℕ) (lt : t < length forest.mapping.trees) where
    pub place-total : (place_of forest t).first + (place_of forest t).pages ≤ page_total forest.body forest.schema
    place-total = omega (arith, place-within forest t lt, total)

    pub place-few : (place_of forest t).first + (place_of forest t).pages ≤ 2 ^ 50
    place-few = omega (arith, place-total, total-few)

    pub place-file : (place_of forest t).file < 4
    unfolding place_of
    place-file = omega arith

    pub there : t < length (selected forest.schema.views).trees
    there = subst (λ (m : Mapping). t < length m.trees) forest.mapped lt

    pub shape-lawful : IsShape (shape_of forest.body.format forest.schema (tree_of forest.mapping t))
    shape-lawful = subst (λ (m : Mapping). IsShape (shape_of forest.body.format forest.schema (tree_of m t))) (sym forest.mapped) (tree-shape forest.schema forest.lawful forest.body.format t there)

    pub place-shape : IsShape (place_of forest t).shape
    unfolding place_of
    place-shape = shape-lawful

    -- no tree has more than 2^41 pages
    pub place-pages : (place_of forest t).pages ≤ 2 ^ 41
    unfolding place_of
    place-pages = pages-few forest.body.format forest.schema forest.lawful forest.body.counts few-counts (tree_of forest.mapping t) shape-lawful.dims

    pub nine-slots : length (tree_of forest.mapping t).view_of ≡ 9
    nine-slots = subst (λ (m : Mapping). length (tree_of m t).view_of ≡ 9) (sym forest.mapped) (nine-in forest.schema.views t there)

    -- the pages of one tree more
    pub pages-more : pages_of_all forest.body.format forest.schema forest.body.counts (take (t + 1) forest.mapping.trees) ≡ pages_of_all forest.body.format forest.schema forest.body.counts (take t forest.mapping.trees) + (place_of forest t).pages
    unfolding place_of
    pages-more =
        let f : Tree → ℕ = pages_of forest.body.format forest.schema forest.body.counts in
        let more : pages_of_all forest.body.format forest.schema forest.body.counts (take (t + 1) forest.mapping.trees) ≡ sum_by f (take t forest.mapping.trees ++ tree_of forest.mapping t ∷ [])
        = ap (pages_of_all forest.body.format forest.schema forest.body.counts) (take_more forest.mapping.trees t no_tree lt) in
        omega (arith, more, sum_by-append f (take t forest.mapping.trees) (tree_of forest.mapping t ∷ []), sum_by-cons f (tree_of forest.mapping t) [])

    -- the trees up to one have no more pages than all
    pub part-total : pages_of_all forest.body.format forest.schema forest.body.counts (take t forest.mapping.trees) + (place_of forest t).pages ≤ page_total forest.body forest.schema
    unfolding place_of
    part-total = place-total
