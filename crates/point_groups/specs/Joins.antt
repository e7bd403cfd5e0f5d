-- When cells join.
use Rattle.std.specs.Prelude.{◌≡◌}
use Rattle.fact_model.specs.declared.cell.Cell.{Cell}
use Rattle.fact_model.specs.Cell.{FitCells}

-- two cells have as many measures, and their counts and sums add up within their types
pub record Joins (c d : Cell) : Type 0 where
  pub measures : c.measures ≡ d.measures
  pub fit : FitCells c d
