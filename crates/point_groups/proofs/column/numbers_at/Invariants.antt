use Rattle.std.proofs.Common.{◌≡◌, ℕ, ◌<◌, get_or, length}
use Rattle.point_groups.specs.Columns.{numbers_at}
use Rattle.point_groups.proofs.column.numbers_at.Given as goal

-- the numbers of the lists passed
abbrev pub invariant-loop-i : goal.invariant-loop-i
invariant-loop-i l = record {
  long : length l.numbers ≡ 8;
  passed : (j : ℕ) → j < l.i → get_or l.numbers j 0 ≡ get_or (numbers_at l.place l.lists) j 0;
}
