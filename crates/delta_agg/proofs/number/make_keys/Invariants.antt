use Rattle.std.proofs.Common.{◌≡◌, map}
use Rattle.std.specs.List.{range_with_len}
use Rattle.delta_agg.specs.Rows.{row_key}
use Rattle.delta_agg.proofs.number.make_keys.Given as goal

-- the keys of the rows passed
abbrev pub invariant-loop-row : goal.invariant-loop-row
invariant-loop-row g l = map g.K.Number.number l.keys.items ≡ map (row_key l.digits l.coded) (range_with_len 0 l.row)
