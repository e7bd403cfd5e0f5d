use Rattle.std.proofs.Common.{◌≡◌, ◌+◌, ◌-◌, ◌^◌, min, drop}
use Rattle.std.specs.List.{position_or_len}
use Rattle.select_map.specs.Standing.{holds}
use Rattle.select_map.proofs.mapping.Mapping.first_holding.Given as goal

-- no tree passed holds the view
abbrev pub invariant-loop-tree : goal.invariant-loop-tree
invariant-loop-tree l = record {
  number : l.number ≡ min l.tree-index (2 ^ 32 - 1);
  first : l.tree-index + position_or_len (holds l.view) (drop l.tree-index l.self.trees) ≡ position_or_len (holds l.view) l.self.trees;
}
