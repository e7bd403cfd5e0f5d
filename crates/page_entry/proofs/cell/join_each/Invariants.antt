use Rattle.std.proofs.Common.{◌≡◌, ◌≤◌, ◌<◌, ℕ, drop, get_or, length}
use Rattle.fact_model.specs.Cell.{join_parts}
use Rattle.page_entry.specs.Cells.{cell_of}
use Rattle.page_entry.specs.Entries.{no_part}
use Rattle.page_entry.proofs.cell.join_each.Given as goal

-- the parts passed are joined, and the others are as they were
abbrev pub invariant-loop-measure : goal.invariant-loop-measure
invariant-loop-measure l = record {
  four : length l.parts ≡ 4;
  passed : (k : ℕ) → k < l.measure → get_or l.parts k no_part ≡ join_parts (get_or l.fn.parts k no_part) (get_or (cell_of l.measures (drop l.at l.bytes)).parts k no_part);
  rest : (k : ℕ) → l.measure ≤ k → get_or l.parts k no_part ≡ get_or l.fn.parts k no_part;
}
