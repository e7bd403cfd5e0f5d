use Rattle.std.proofs.Common.{◌≡◌, take}
use Rattle.fact_model.specs.Cell.{cell_of}
use Rattle.delta_agg.specs.Orders.{facts_at}
use Rattle.delta_agg.proofs.cells.cell_of.Given as goal

-- the cell of the rows passed
abbrev pub invariant-loop-i : goal.invariant-loop-i
invariant-loop-i l = l.cell ≡ cell_of l.measures (facts_at l.numbers (take l.i l.rows))
