use Rattle.std.proofs.Common.{◌≡◌, take}
use Rattle.roll_up.specs.Lifted.{groups_of}
use Rattle.roll_up.proofs.folding.fold_of.Given as goal

-- the groups of the rows passed
abbrev pub invariant-loop-place : goal.invariant-loop-place
invariant-loop-place g l = l.fold ≡ groups_of l.lifting.arity l.lifting.levels.now l.lifting.slice.now (take l.place (g.R.LentRows.rows l.rows))
