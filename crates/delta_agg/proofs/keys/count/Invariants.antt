use Rattle.std.proofs.Common.{◌≤◌}
use Rattle.delta_agg.proofs.keys.count.Given as goal

-- no more than the places passed
abbrev pub invariant-loop-at : goal.invariant-loop-at
invariant-loop-at g l = l.count ≤ l.at
