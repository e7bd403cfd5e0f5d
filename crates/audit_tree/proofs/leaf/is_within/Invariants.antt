use Rattle.std.proofs.Common.{◌≤◌, ◌<◌, ℕ}
use Rattle.std.specs.Prelude.{slice_index}
use Rattle.audit_tree.proofs.leaf.is_within.Given as goal

-- the coordinates before this one are within
abbrev pub invariant-loop-dimension : goal.invariant-loop-dimension
invariant-loop-dimension l = (i : ℕ) → i < l.dimension → slice_index l.entry.point.at i ≤ slice_index l.limits i
