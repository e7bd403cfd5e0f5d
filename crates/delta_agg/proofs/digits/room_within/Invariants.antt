use Rattle.std.proofs.Common.{◌≡◌, ◌*◌, drop}
use Rattle.delta_agg.specs.Rows.{room}
use Rattle.delta_agg.proofs.digits.room_within.Given as goal

-- the room of the digits passed, and of those that are left
abbrev pub invariant-loop-digit : goal.invariant-loop-digit
invariant-loop-digit l = l.room * room (drop l.digit-index l.digits) ≡ room l.digits
