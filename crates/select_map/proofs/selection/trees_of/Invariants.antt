use Rattle.std.proofs.Common.{◌≡◌, map}
use Rattle.std.specs.List.{range_with_len}
use Rattle.select_map.specs.Views.{tree_at}
use Rattle.select_map.proofs.selection.trees_of.Given as goal

-- the trees made are the first
abbrev pub invariant-loop-tree : goal.invariant-loop-tree
invariant-loop-tree l = l.trees ≡ map (tree_at l.views) (range_with_len 0 l.tree)
