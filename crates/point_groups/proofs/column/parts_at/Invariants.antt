use Rattle.std.proofs.Common.{◌≡◌, ℕ, ◌<◌, [], get_or, length}
use Rattle.fact_model.specs.Cell.{part_of}
use Rattle.point_groups.specs.Columns.{parts_at}
use Rattle.point_groups.proofs.column.parts_at.Given as goal

-- the parts of the lists passed
abbrev pub invariant-loop-i : goal.invariant-loop-i
invariant-loop-i l = record {
  long : length l.parts ≡ 4;
  passed : (j : ℕ) → j < l.i → get_or l.parts j (part_of []) ≡ get_or (parts_at l.place l.lists) j (part_of []);
}
