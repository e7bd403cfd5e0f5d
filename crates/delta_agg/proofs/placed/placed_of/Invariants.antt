use Rattle.std.proofs.Common.{◌≡◌, map}
use Rattle.std.specs.List.{range_with_len}
use Rattle.delta_agg.specs.Placed.{placed_at}
use Rattle.delta_agg.proofs.placed.placed_of.Given as goal

-- the rows passed
abbrev pub invariant-loop-row : goal.invariant-loop-row
invariant-loop-row l = l.placed.items ≡ map (placed_at l.view l.coded) (range_with_len 0 l.row)
