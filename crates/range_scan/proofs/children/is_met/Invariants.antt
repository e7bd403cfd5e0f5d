use Rattle.std.proofs.Common.{◌≤◌, ◌<◌, ◌-◌, ℕ, drop}
use Rattle.std.specs.Prelude.{slice_index}
use Rattle.page_fmt.specs.Taking.{child_of}
use Rattle.range_scan.proofs.children.is_met.Given as goal

-- the box does not lie beyond the region in the last dimensions
abbrev pub invariant-loop-skipped : goal.invariant-loop-skipped
invariant-loop-skipped l = (i : ℕ) → l.shape.dims - l.skipped ≤ i → i < l.shape.dims
    → (slice_index (child_of l.shape (drop l.at l.page)).bounds.low i ≤ slice_index l.region.bounds.high i) × (slice_index l.region.bounds.low i ≤ slice_index (child_of l.shape (drop l.at l.page)).bounds.high i)
