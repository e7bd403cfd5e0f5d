use Rattle.std.proofs.Common.{◌≡◌, ◌+◌, ◌<◌, ◌≤◌, ◌++◌, ◌∷◌, [], ℕ, List, get_or, length, map, take, sym, ◌∙◌, ap, subst}
use Rattle.std.specs.List.{All}
use Rattle.std.proofs.lemmas.List.{map-append, take_all, take_more}
use Rattle.std.proofs.lemmas.List.Elements.{All-push}
use Rattle.spec_points.specs.Points.{View}
use Rattle.select_map.specs.declared.mapping.Tree.{Tree}
use Rattle.select_map.specs.Trees.{numbers_of, views_of}
use Rattle.delta_agg.specs.declared.runs.ViewRuns.{ViewRuns}
use Rattle.delta_agg.specs.Orders.{IsTree, views_in}
use Rattle.delta_agg.proofs.TreePoints.{tree-numbers}
use Rattle.delta_agg.proofs.TreeTurns.{slots-nine}
use Rattle.delta_agg.proofs.trees.trees_of.Goals as goal

pub tree_of-requires-clause-slots : goal.tree_of-requires-clause-slots
tree_of-requires-clause-slots c =
    let s = c.args.schema.now in
    subst (All (λ (tree : Tree). length tree.view_of ≤ 9)) (sym c.as_slice-tree-items.ensures) (slots-nine s.views c.args.mapping.now c.requires.mapping) c.loop-tree.tree-index _ c.loop-tree-test.true

pub tree_of-requires-clause-views : goal.tree_of-requires-clause-views
tree_of-requires-clause-views c =
    let s = c.args.schema.now in
    let declared : Tree → Type 0 = λ tree. All (λ v. v < length s.views) (numbers_of tree) in
    subst (All declared) (sym c.as_slice-tree-items.ensures) (tree-numbers s c.args.mapping.now c.requires.schema c.requires.mapping) c.loop-tree.tree-index _ c.loop-tree-test.true

-- one tree more
trees-more : (so_far : List (List ViewRuns)) (views : List ViewRuns) (all : List View) (trees : List Tree) (k : ℕ) (d : Tree) → k < length trees → views_in views ≡ views_of all (get_or trees k d)
    → map views_in so_far ≡ map (views_of all) (take k trees) → map views_in (so_far ++ views ∷ []) ≡ map (views_of all) (take (k + 1) trees)
trees-more so_far views all trees k d low is before =
    map-append views_in so_far (views ∷ [])
    ∙ ((λ i. before i ++ is i ∷ []) ∙ sym (ap (map (views_of all)) (take_more trees k d low) ∙ map-append (views_of all) (take k trees) (get_or trees k d ∷ [])))

pub loop-tree-preserved : goal.loop-tree-preserved
loop-tree-preserved c =
    let so_far = c.loop-tree.trees.items in
    let views : List ViewRuns = c.in_ok-tree_of.field-0 in
    let pushed = c.in_ok-push.ensures.items in
    record {
      views = ap (map views_in) pushed
          ∙ trees-more so_far views c.args.schema.now.views c.as_slice-tree-items.result.now c.loop-tree.tree-index _ c.loop-tree-test.true c.in_ok-tree_of.ensures.views c.loop-tree.invariant.views;
      each = subst (All (IsTree c.args.coded.now)) (sym pushed) (All-push (IsTree c.args.coded.now) so_far views c.loop-tree.invariant.each c.in_ok-tree_of.ensures.tree);
    }

pub returns-clause-views : goal.returns-clause-views
returns-clause-views c =
    ap (map views_in) c.from_vec.ensures
    ∙ (c.loop-tree.invariant.views
    ∙ ap (map (views_of c.args.schema.now.views)) (take_all c.loop-tree.tree-index c.as_slice-tree-items.result.now c.loop-tree-test.false ∙ c.as_slice-tree-items.ensures))
