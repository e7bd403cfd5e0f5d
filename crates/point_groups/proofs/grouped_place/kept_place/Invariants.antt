use Rattle.std.proofs.Common.{◌≡◌, ℕ, ◌<◌, ◌≤◌, cond, false, get_or, length}
use Rattle.point_groups.proofs.grouped_place.kept_place.Given as goal

-- the first coordinates are as they are to be, and the others as they were
abbrev pub invariant-loop-i : goal.invariant-loop-i
invariant-loop-i l = record {
  eight : length l.kept ≡ 8;
  passed : (k : ℕ) → k < l.i → get_or l.kept k 0 ≡ cond (get_or l.dims k false) (get_or l.place k 0) 0;
  rest : (k : ℕ) → l.i ≤ k → get_or l.kept k 0 ≡ get_or l.place k 0;
}
