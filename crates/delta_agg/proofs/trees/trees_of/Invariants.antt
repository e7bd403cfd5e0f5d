use Rattle.std.proofs.Common.{◌≡◌, map, take}
use Rattle.std.specs.List.{All}
use Rattle.select_map.specs.Trees.{views_of}
use Rattle.delta_agg.specs.Orders.{IsTree, views_in}
use Rattle.delta_agg.proofs.trees.trees_of.Given as goal

-- the trees passed
abbrev pub invariant-loop-tree : goal.invariant-loop-tree
invariant-loop-tree l = record {
  views : map views_in l.trees.items ≡ map (views_of l.schema.views) (take l.tree-index l.tree-items);
  each : All (IsTree l.coded) l.trees.items;
}
