use Rattle.std.proofs.Common.{◌≡◌, ℕ, ◌<◌, get_or, length}
use Rattle.point_groups.specs.Columns.{numbers_at}
use Rattle.point_groups.proofs.column.put_numbers.Given as goal

-- the lists passed have their numbers at the place, and elsewhere all are as they were
abbrev pub invariant-loop-i : goal.invariant-loop-i
invariant-loop-i l = record {
  long : length l.lists ≡ 8;
  there : (j : ℕ) → j < l.i → get_or (numbers_at l.place l.lists) j 0 ≡ get_or l.numbers j 0;
  others : (k : ℕ) → (k ≡ l.place → ⊥) → numbers_at k l.lists ≡ numbers_at k l.fn.lists;
}
