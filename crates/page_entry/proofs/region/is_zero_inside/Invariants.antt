use Rattle.std.proofs.Common.{◌≡◌, ◌≤◌, ◌<◌, ℕ}
use Rattle.std.specs.Prelude.{slice_index}
use Rattle.page_entry.proofs.region.is_zero_inside.Given as goal

-- zero lies inside in the dimensions passed
abbrev pub invariant-loop-dimension : goal.invariant-loop-dimension
invariant-loop-dimension l = (i : ℕ) → l.arity ≤ i → i < l.dimension → slice_index l.bounds.low i ≡ 0
