use Rattle.std.proofs.Common.{◌≡◌, ◌<◌, ◌≤◌, ℕ, [], ◌∷◌, get_or, length}
use Rattle.std.specs.Prelude.{pos}
use Rattle.fact_model.specs.Cell.{part_of}
use Rattle.delta_agg.specs.Orders.{no_part}
use Rattle.delta_agg.proofs.cells.cell_alone.Given as goal

-- the parts of the measures passed, and none behind them
abbrev pub invariant-loop-m : goal.invariant-loop-m
invariant-loop-m l = record {
  long : length l.parts ≡ 4;
  each : (k : ℕ) → k < l.m → get_or l.parts k no_part ≡ part_of (get_or l.numbers k (pos 0) ∷ []);
  none : (k : ℕ) → l.m ≤ k → k < 4 → get_or l.parts k no_part ≡ no_part;
}
