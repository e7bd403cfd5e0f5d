use Rattle.std.proofs.Common.{◌≡◌, ◌≤◌, ◌<◌, ℕ}
use Rattle.std.specs.Prelude.{slice_index}
use Rattle.page_entry.proofs.order.is_zero_past.Given as goal

abbrev pub invariant-loop-dimension : goal.invariant-loop-dimension
invariant-loop-dimension l = (i : ℕ) → l.arity ≤ i → i < l.dimension → slice_index l.point.at i ≡ 0
