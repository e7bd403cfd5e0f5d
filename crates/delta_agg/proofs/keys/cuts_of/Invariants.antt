use Rattle.std.proofs.Common.{◌≡◌}
use Rattle.std.specs.Prelude.{filter}
use Rattle.std.specs.List.{range_with_len}
use Rattle.delta_agg.specs.Keys.{key_begins}
use Rattle.delta_agg.proofs.keys.cuts_of.Given as goal

-- what begins among the keys passed
abbrev pub invariant-loop-at : goal.invariant-loop-at
invariant-loop-at g l = (past : g.row.K.Denot) → l.cuts.items ≡ filter (key_begins g.K.RowKey.same past l.keys) (range_with_len 0 l.at)
