use Rattle.std.proofs.Common.{◌≡◌, ◌≤◌, ◌++◌, [], drop, get_or, length, map}
use Rattle.std.specs.List.{All}
use Rattle.select_map.specs.Trees.{views_of}
use Rattle.select_map.proofs.TreeViews.{numbers_in}
use Rattle.delta_agg.specs.Orders.{IsRuns, views_in}
use Rattle.delta_agg.proofs.trees.tree_of.Given as goal

-- the views so far, and those of the slots that are left, are those of the tree
abbrev pub invariant-loop-slot : goal.invariant-loop-slot
invariant-loop-slot l = record {
  views : views_in l.views.items ++ map (λ v. get_or l.schema.views v []) (numbers_in (drop l.slot-index l.slot-items)) ≡ views_of l.schema.views l.tree;
  few : length l.views.items ≤ l.slot-index;
  each : All (IsRuns l.coded) l.views.items;
}
