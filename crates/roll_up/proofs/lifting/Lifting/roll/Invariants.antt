use Rattle.std.proofs.Common.{◌≡◌, map, take}
use Rattle.row_fold.specs.Lent.{value_of}
use Rattle.roll_up.specs.Lifted.{value_in}
use Rattle.roll_up.proofs.lifting.Lifting.roll.Given as goal

-- the values of the attributes passed
abbrev pub invariant-loop-attr : goal.invariant-loop-attr
invariant-loop-attr l = map value_of l.room.items ≡ map (value_in l.self.arity l.self.levels.now l.self.slice.now (map value_of l.key)) (take l.attr-index l.self.slice.now.group)
