use Rattle.std.proofs.Common.{◌≡◌, ℕ, ◌<◌, ◌≤◌, false, get_or, length}
use Rattle.spec_points.specs.Agree.{among}
use Rattle.point_groups.proofs.grouped_place.grouped_dims.Given as goal

-- the first attributes are told, and the others are not
abbrev pub invariant-loop-i : goal.invariant-loop-i
invariant-loop-i l = record {
  eight : length l.dims ≡ 8;
  passed : (k : ℕ) → k < l.i → get_or l.dims k false ≡ among l.group (get_or l.view k 0);
  rest : (k : ℕ) → l.i ≤ k → get_or l.dims k false ≡ false;
}
