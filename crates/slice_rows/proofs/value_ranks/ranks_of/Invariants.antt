use Rattle.std.proofs.Common.{◌≡◌, ◌<◌, ◌-◌, ℕ, Some, get_or, nat_eq}
use Rattle.indexmap.specs.IndexMap.{get}
use Rattle.slice_rows.specs.Ranks.{rank_among}
use Rattle.slice_rows.proofs.value_ranks.ranks_of.Given as goal

-- the codes passed have their ranks, the last of which is at hand
abbrev pub invariant-loop-i : goal.invariant-loop-i
invariant-loop-i l = record {
  told : (j : ℕ) → j < l.i → get nat_eq l.ranks (get_or l.codes j 0) ≡ Some (rank_among l.names l.attr l.codes (get_or l.codes j 0));
  last : 0 < l.i → l.rank ≡ rank_among l.names l.attr l.codes (get_or l.codes (l.i - 1) 0);
}
