use Rattle.std.proofs.Common.{◌≡◌, take}
use Rattle.page_entry.specs.Entries.{entries}
use Rattle.audit_tree.proofs.leaf.push_all.Given as goal

-- the first points are pushed
abbrev pub invariant-loop-index : goal.invariant-loop-index
invariant-loop-index l = l.packer.at ≡ record l.fn.packer.at { buffer = take l.index (entries l.shape l.page) }
