use Rattle.std.proofs.Common.{◌≡◌, ◌∙◌, arith}
use Rattle.select_map.proofs.Trees.{trees-more, trees-all}
use Rattle.select_map.proofs.selection.trees_of.Goals as goal

pub loop-tree-preserved : goal.loop-tree-preserved
loop-tree-preserved c = trees-more c.args.views.now c.loop-tree.trees c.push.new.self c.tree_at.result c.loop-tree.tree c.loop-tree.invariant c.tree_at.ensures c.in_ok-push.ensures.pushed

pub returns : goal.returns
returns c =
    let end : c.loop-tree.tree ≡ c.tree_count-tree-end.result = omega arith in
    trees-all c.args.views.now c.loop-tree.trees c.loop-tree.tree c.loop-tree.invariant (end ∙ c.tree_count-tree-end.ensures)
