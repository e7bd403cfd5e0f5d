-- The runs of all trees are the points of the batch in each.
use Rattle.std.proofs.Common.{◌≡◌, ℕ, ◌-◌, ◌<◌, ◌≤◌, ℤ, List, [], ◌∷◌, ◌++◌, length, map, refl, sym, ◌∙◌, ap, subst, arith}
use Rattle.std.specs.Prelude.{flat_map, nat_abs, nat_le, nat_lt, sum_by}
use Rattle.std.specs.List.{All, AllByRecursion, range_with_len}
use Rattle.std.proofs.lemmas.Bool.{and_parts, leb-true, ltb-true}
use Rattle.std.proofs.lemmas.List.{get_or-map, length-map}
use Rattle.fact_model.specs.declared.fact.Fact.{Fact}
use Rattle.fact_model.specs.Fact.{mass_limit, measure_at}
use Rattle.fact_batch.specs.Batch.{measures_in}
use Rattle.cube_point.specs.declared.point.Entry.{Entry}
use Rattle.cube_schema.specs.declared.schema.Schema.{Schema}
use Rattle.cube_schema.specs.Agreeing.{Agrees}
use Rattle.cube_schema.specs.Kinds.{measure_count}
use Rattle.cube_schema.specs.Lawful.{IsSchema}
use Rattle.select_map.specs.declared.mapping.Tree.{Tree}
use Rattle.select_map.specs.Trees.{views_of}
use Rattle.spec_points.specs.Light.{KeepMasses}
use Rattle.spec_points.specs.Points.{View}
use Rattle.spec_points.proofs.Members.{every-from_All}
use Rattle.delta_agg.specs.declared.runs.ViewRuns.{ViewRuns}
use Rattle.delta_agg.specs.Batch.{HasNumbers, batch_points, no_fact}
use Rattle.delta_agg.specs.Orders.{IsBatch, IsRuns, IsTree, bare, run_at, run_entry, tree_entries, view_entries, views_in}
use Rattle.delta_agg.specs.Trees.{batch_tree}
use Rattle.delta_agg.proofs.CutPoints.{runs-joined}
use Rattle.delta_agg.proofs.RowPoints.{rows-points}
use Rattle.delta_agg.proofs.RunCuts.{order-rows}

-- ---- what stands

-- masses are of the numbers alone
same-mass : (m : ℕ) (facts : List Fact) → map (measure_at m) (map bare (measures_in facts)) ≡ map (measure_at m) facts
same-mass m [] = refl
same-mass m (x ∷ facts) = ap (λ zs. measure_at m x ∷ zs) (same-mass m facts)

module _ (s : Schema) (lawful : IsSchema s) (coded : List (List ℕ)) (facts : List Fact) (agree : All (Agrees s) facts) where
  has-numbers : All (HasNumbers (measure_count s)) facts
  has-numbers k d low = (agree k d low).measures

  pub is-batch : length coded ≡ length facts → KeepMasses facts → length facts ≤ 262144 → IsBatch (measure_count s) coded (measures_in facts)
  is-batch lists masses few =
      let counted = and_parts (nat_lt 0 (measure_count s)) (nat_le (measure_count s) 4) lawful.some_measures in
      let long : length (measures_in facts) ≡ length facts = length-map facts (λ (x : Fact). x.measures) in
      let each : All (λ (row : List ℤ). length row ≡ measure_count s) (measures_in facts) = λ k d low.
      (let inside : k < length facts = omega (arith, low, long) in
      ap (λ (row : List ℤ). length row) (get_or-map (λ (x : Fact). x.measures) facts k no_fact d inside) ∙ has-numbers k no_fact inside) in
      record {
        lists = lists ∙ sym long;
        some = ltb-true 0 (measure_count s) counted.0;
        four = leb-true (measure_count s) 4 counted.1;
        each = each;
        masses = λ m low. subst (λ zs. sum_by nat_abs zs ≤ mass_limit) (sym (same-mass m facts)) (masses m low);
        few = omega (arith, few, long);
      }

  module _ (lists : length coded ≡ length facts) where
    abbrev n : ℕ
    n = measure_count s

    view-points : (v : ViewRuns) → IsRuns coded v → view_entries n coded (measures_in facts) v ≡ batch_points n v.view coded facts
    view-points v is =
        let o = is.ordered in
        let low = subst (λ k. All (λ row. row < k) v.runs.order) lists (order-rows v.view coded v.runs.order v.runs.cuts o) in
        ap (λ cuts. map (λ k. run_entry n v.view coded (measures_in facts) (run_at v.runs.order cuts k)) (range_with_len 0 (length cuts - 1))) o.cut
        ∙ (runs-joined n v.view coded facts has-numbers v.runs.order low ∙ rows-points n v.view coded facts v.runs.order lists has-numbers o.moved o.sorted)

    abbrev of_views : List View → List Entry
    of_views views = flat_map (λ view. batch_points n view coded facts) views

    tree-points : (views : List ViewRuns) → AllByRecursion (IsRuns coded) views → tree_entries n coded (measures_in facts) views ≡ of_views (views_in views)
    tree-points [] each = refl
    tree-points (v ∷ views) each = λ i. view-points v each.0 i ++ tree-points views each.1 i

    all-points : (trees : List (List ViewRuns)) → AllByRecursion (IsTree coded) trees → map (tree_entries n coded (measures_in facts)) trees ≡ map of_views (map views_in trees)
    all-points [] each = refl
    all-points (views ∷ trees) each = λ i. tree-points views (every-from_All (IsRuns coded) views each.0.each) i ∷ all-points trees each.1 i

    by-trees : (trees : List Tree) → map of_views (map (views_of s.views) trees) ≡ map (batch_tree s coded facts) trees
    by-trees [] = refl
    by-trees (tree ∷ trees) = ap (λ es. batch_tree s coded facts tree ∷ es) (by-trees trees)

    pub trees-points : (runs : List (List ViewRuns)) (trees : List Tree) → All (IsTree coded) runs → map views_in runs ≡ map (views_of s.views) trees
        → map (tree_entries n coded (measures_in facts)) runs ≡ map (batch_tree s coded facts) trees
    trees-points runs trees each are = all-points runs (every-from_All (IsTree coded) runs each) ∙ (ap (map of_views) are ∙ by-trees trees)
