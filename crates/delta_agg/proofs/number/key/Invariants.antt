use Rattle.std.proofs.Common.{◌≡◌, ◌≤◌, ◌+◌, ◌*◌, drop}
use Rattle.delta_agg.specs.Rows.{number_from, room}
use Rattle.delta_agg.proofs.number.key.Given as goal

-- the number so far, with the digits that are left behind it, is the whole, and has room
abbrev pub invariant-loop-digit : goal.invariant-loop-digit
invariant-loop-digit g l = record {
  whole : number_from (g.K.Number.number l.number) (drop l.digit-index l.digits) l.coordinates ≡ number_from 0 l.digits l.coordinates;
  fits : (g.K.Number.number l.number + 1) * room (drop l.digit-index l.digits) ≤ g.K.Number.MOST_PLACES;
}
