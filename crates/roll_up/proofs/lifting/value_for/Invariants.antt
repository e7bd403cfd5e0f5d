use Rattle.std.proofs.Common.{◌≡◌, drop, map}
use Rattle.row_fold.specs.Lent.{value_of}
use Rattle.roll_up.specs.Lifted.{value_for}
use Rattle.roll_up.proofs.lifting.value_for.Given as goal

-- the value is that of the attributes that are left
abbrev pub invariant-loop-i : goal.invariant-loop-i
invariant-loop-i l = value_for l.group (map value_of l.key) l.attr ≡ value_for (drop l.i l.group) (drop l.i (map value_of l.key)) l.attr
