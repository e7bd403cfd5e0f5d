use Rattle.std.proofs.Common.{◌≤◌, ◌<◌, ℕ}
use Rattle.std.specs.Prelude.{slice_index}
use Rattle.page_entry.proofs.Coordinates.{coordinates}
use Rattle.page_entry.proofs.region.are_used_inside.Given as goal

-- the coordinates passed lie between their ends
abbrev pub invariant-loop-dimension : goal.invariant-loop-dimension
invariant-loop-dimension l = (i : ℕ) → i < l.dimension
    → (slice_index l.bounds.low i ≤ slice_index (coordinates l.wide l.arity l.bytes) i) × (slice_index (coordinates l.wide l.arity l.bytes) i ≤ slice_index l.bounds.high i)
