use Rattle.std.proofs.Common.{◌≡◌, ◌<◌, ◌≤◌, ℕ, get_or, length}
use Rattle.fact_model.specs.Cell.{join_parts}
use Rattle.delta_agg.specs.Orders.{no_part}
use Rattle.delta_agg.proofs.RowCells.{part_at}
use Rattle.delta_agg.proofs.cells.add.Given as goal

-- the parts of the measures passed are joined, and those behind them as they were
abbrev pub invariant-loop-m : goal.invariant-loop-m
invariant-loop-m l = record {
  count : l.cell.count ≡ l.initial.cell.count;
  measures : l.cell.measures ≡ l.initial.cell.measures;
  long : length l.cell.parts ≡ 4;
  each : (k : ℕ) → k < l.m → get_or l.cell.parts k no_part ≡ join_parts (get_or l.initial.cell.parts k no_part) (part_at l.numbers k);
  rest : (k : ℕ) → l.m ≤ k → k < 4 → get_or l.cell.parts k no_part ≡ get_or l.initial.cell.parts k no_part;
}
