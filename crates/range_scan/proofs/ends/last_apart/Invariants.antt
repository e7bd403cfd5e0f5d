use Rattle.std.proofs.Common.{◌≡◌, ◌-◌, ◌<◌, ℕ}
use Rattle.std.specs.Prelude.{slice_index}
use Rattle.range_scan.proofs.ends.last_apart.Given as goal

-- both points are equal in the last dimensions
abbrev pub invariant-loop-skipped : goal.invariant-loop-skipped
invariant-loop-skipped l = (i : ℕ) → 7 - l.skipped < i → i < 8 → slice_index l.first.at i ≡ slice_index l.last.at i
