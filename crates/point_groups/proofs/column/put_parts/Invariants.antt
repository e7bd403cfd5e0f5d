use Rattle.std.proofs.Common.{◌≡◌, ℕ, ◌<◌, [], get_or, length}
use Rattle.fact_model.specs.Cell.{part_of}
use Rattle.point_groups.specs.Columns.{parts_at}
use Rattle.point_groups.proofs.column.put_parts.Given as goal

-- the lists passed have their parts at the place, and elsewhere all are as they were
abbrev pub invariant-loop-i : goal.invariant-loop-i
invariant-loop-i l = record {
  long : length l.lists ≡ 4;
  there : (j : ℕ) → j < l.i → get_or (parts_at l.place l.lists) j (part_of []) ≡ get_or l.parts j (part_of []);
  others : (k : ℕ) → (k ≡ l.place → ⊥) → parts_at k l.lists ≡ parts_at k l.fn.lists;
}
