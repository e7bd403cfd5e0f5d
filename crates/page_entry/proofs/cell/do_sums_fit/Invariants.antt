use Rattle.std.proofs.Common.{◌<◌, ℕ, drop}
use Rattle.fact_model.specs.Cell.{SumFitsAt}
use Rattle.page_entry.specs.Cells.{cell_of}
use Rattle.page_entry.proofs.cell.do_sums_fit.Given as goal

-- the sums passed add up
abbrev pub invariant-loop-measure : goal.invariant-loop-measure
invariant-loop-measure l = (m : ℕ) → m < l.measure → SumFitsAt l.cell (cell_of l.cell.measures (drop l.at l.bytes)) m
