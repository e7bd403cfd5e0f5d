use Rattle.std.proofs.Common.{◌≡◌, ℕ, ◌<◌, true, false, get_or}
use Rattle.point_groups.proofs.grouped_place.is_kept_at.Given as goal

-- the first coordinates are alike where they are kept
abbrev pub invariant-loop-i : goal.invariant-loop-i
invariant-loop-i l = (k : ℕ) → k < l.i → get_or l.dims k false ≡ true → get_or l.entry.point.at k 0 ≡ get_or l.place k 0
