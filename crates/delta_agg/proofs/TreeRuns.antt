-- The runs of the views of a tree, one view after another.
use Rattle.std.proofs.Common.{◌≡◌, ℕ, ◌+◌, ◌-◌, ◌<◌, ◌≤◌, ℤ, List, [], ◌∷◌, length, get_or, drop, sum_by, refl, sym, ◌∙◌, ap, map, ◌*◌, subst, arith}
use Rattle.std.specs.List.{All}
use Rattle.std.proofs.lemmas.List.{drop_all, drop_more, get_or-append_right, get_or-map, get_or_append_left, length-append, length-map}
use Rattle.std.proofs.lemmas.List.FromFn.{get_or-map-range_with_len, length-map-range_with_len}
use Rattle.std.proofs.lemmas.List.Sums.{sum_by-cons, sum_by-le}
use Rattle.cube_point.specs.declared.point.Entry.{Entry}
use Rattle.select_map.specs.declared.mapping.Tree.{Tree}
use Rattle.select_map.specs.Trees.{views_of}
use Rattle.spec_points.specs.Points.{View}
use Rattle.delta_agg.specs.declared.runs.ViewRuns.{ViewRuns}
use Rattle.delta_agg.specs.Orders.{IsTree, entry_at, no_view, run_count, tree_entries, view_entries, views_in}
use Rattle.delta_agg.specs.Trees.{AreFew}
use Rattle.delta_agg.proofs.RunCuts.{few-cuts}

module _ (measures : ℕ) (coded : List (List ℕ)) (numbers : List (List ℤ)) where
  view-long : (v : ViewRuns) → length (view_entries measures coded numbers v) ≡ run_count v
  view-long v = length-map-range_with_len (entry_at measures coded numbers v) 0 (run_count v)

  -- a tree has as many points as its views have runs
  pub tree-long : (views : List ViewRuns) → length (tree_entries measures coded numbers views) ≡ sum_by run_count views
  tree-long [] = refl
  tree-long (v ∷ views) =
      length-append (view_entries measures coded numbers v) (tree_entries measures coded numbers views)
      ∙ ((λ i. view-long v i + tree-long views i) ∙ sym (sum_by-cons run_count v views))

  module _ (views : List ViewRuns) (i left : ℕ) (low : i < length views) (d : Entry) where
    abbrev view : ViewRuns
    view = get_or views i no_view

    -- a point of the first view that is left
    pub place-here : left < run_count view → get_or (tree_entries measures coded numbers (drop i views)) left d ≡ entry_at measures coded numbers view left
    place-here here =
        ap (λ vs. get_or (tree_entries measures coded numbers vs) left d) (drop_more views i no_view low)
        ∙ (get_or_append_left (view_entries measures coded numbers view) (tree_entries measures coded numbers (drop (i + 1) views)) d left (omega (arith, here, view-long view))
        ∙ get_or-map-range_with_len (entry_at measures coded numbers view) 0 (run_count view) left left d here (omega arith))

    -- a point of a later one
    pub place-later : run_count view ≤ left → get_or (tree_entries measures coded numbers (drop i views)) left d ≡ get_or (tree_entries measures coded numbers (drop (i + 1) views)) (left - run_count view) d
    place-later past =
        ap (λ vs. get_or (tree_entries measures coded numbers vs) left d) (drop_more views i no_view low)
        ∙ get_or-append_right (view_entries measures coded numbers view) (tree_entries measures coded numbers (drop (i + 1) views)) (run_count view) left d (view-long view) past

-- how many points are left
pub left-more : (views : List ViewRuns) (i : ℕ) → i < length views → sum_by run_count (drop i views) ≡ run_count (get_or views i no_view) + sum_by run_count (drop (i + 1) views)
left-more views i low = ap (sum_by run_count) (drop_more views i no_view low) ∙ sum_by-cons run_count (get_or views i no_view) (drop (i + 1) views)

pub left-none : (views : List ViewRuns) (i : ℕ) → length views ≤ i → sum_by run_count (drop i views) ≡ 0
left-none views i past = ap (sum_by run_count) (drop_all i views past)

-- a tree has at most as many points as there are facts, times its views
pub few-points : (measures : ℕ) (coded : List (List ℕ)) (numbers : List (List ℤ)) (runs : List (List ViewRuns)) (views : List View) (trees : List Tree) (facts : ℕ)
    → All (IsTree coded) runs → map views_in runs ≡ map (views_of views) trees → length coded ≡ facts → AreFew views trees facts (map (tree_entries measures coded numbers) runs)
few-points measures coded numbers runs views trees facts each are lists k tree low =
    let f : List ViewRuns → List Entry = tree_entries measures coded numbers in
    let inside : k < length runs = omega (arith, low, length-map runs f) in
    let other : k < length trees = omega (arith, inside, length-map runs views_in, ap length are, length-map trees (views_of views)) in
    let here : List ViewRuns = get_or runs k [] in
    let few : sum_by run_count here ≤ length here * length coded
    = sum_by-le run_count (length coded) here (λ i v small. few-cuts (get_or here i v).view coded (get_or here i v).runs.order (get_or here i v).runs.cuts ((each k [] inside).each i v small).ordered) in
    let seen : length here ≡ length (views_of views (get_or trees k tree))
    = sym (length-map here (λ (v : ViewRuns). v.view)) ∙ ap length (sym (get_or-map views_in runs k [] [] inside) ∙ (ap (λ vs. get_or vs k []) are ∙ get_or-map (views_of views) trees k tree [] other)) in
    subst (λ n. n ≤ length (views_of views (get_or trees k tree)) * facts) (sym (tree-long measures coded numbers here) ∙ ap length (sym (get_or-map f runs k [] [] inside)))
    (subst (λ n. sum_by run_count here ≤ n) (λ j. seen j * lists j) few)
