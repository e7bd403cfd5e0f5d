use Rattle.std.proofs.Common.{◌≡◌, ◌≤◌, ◌<◌, ℕ}
use Rattle.std.specs.Prelude.{slice_index}
use Rattle.range_scan.proofs.children.holds_some.Given as goal

-- the region holds some place, by the dimensions passed
abbrev pub invariant-loop-dimension : goal.invariant-loop-dimension
invariant-loop-dimension l = record {
  used : (i : ℕ) → i < l.dimension → i < l.dims → slice_index l.region.bounds.low i ≤ slice_index l.region.bounds.high i;
  unused : (i : ℕ) → i < l.dimension → l.dims ≤ i → slice_index l.region.bounds.low i ≡ 0;
}
