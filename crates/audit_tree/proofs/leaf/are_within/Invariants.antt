use Rattle.std.proofs.Common.{take}
use Rattle.std.specs.List.{All}
use Rattle.page_entry.specs.Entries.{entries}
use Rattle.audit_tree.specs.Packed.{IsWithin}
use Rattle.audit_tree.proofs.leaf.are_within.Given as goal

-- the first points are within
abbrev pub invariant-loop-index : goal.invariant-loop-index
invariant-loop-index l = All (IsWithin l.limits) (take l.index (entries l.shape l.page))
