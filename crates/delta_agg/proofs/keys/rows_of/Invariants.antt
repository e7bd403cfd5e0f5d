use Rattle.std.proofs.Common.{◌≡◌, map, take}
use Rattle.delta_agg.proofs.keys.rows_of.Given as goal

-- the rows of the keys passed
abbrev pub invariant-loop-key : goal.invariant-loop-key
invariant-loop-key g l = l.rows.items ≡ map g.K.RowKey.row_of (take l.key-index l.keys)
