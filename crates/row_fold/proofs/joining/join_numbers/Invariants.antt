use Rattle.std.proofs.Common.{◌≡◌}
use Rattle.row_fold.proofs.JoinSteps.{joined_to}
use Rattle.row_fold.proofs.joining.join_numbers.Given as goal

-- the columns passed are joined
abbrev pub invariant-loop-i : goal.invariant-loop-i
invariant-loop-i l = l.sums ≡ joined_to l.columns l.numbers l.fn.sums l.i
