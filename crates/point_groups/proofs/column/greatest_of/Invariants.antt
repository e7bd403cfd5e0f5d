use Rattle.std.proofs.Common.{◌≤◌, ◌<◌, ℕ, get_or}
use Rattle.point_groups.proofs.column.greatest_of.Given as goal

-- none of the numbers passed is greater
abbrev pub invariant-loop-number : goal.invariant-loop-number
invariant-loop-number l = (k d : ℕ) → k < l.number-index → get_or l.numbers k d ≤ l.greatest
