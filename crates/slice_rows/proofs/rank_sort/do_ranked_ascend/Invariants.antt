use Rattle.std.proofs.Common.{◌≡◌, ◌<◌, ◌+◌, ℕ, true, get_or}
use Rattle.slice_rows.specs.Keys.{comes_before}
use Rattle.slice_rows.specs.declared.rank_sort.Ranked.{Ranked}
use Rattle.slice_rows.proofs.rank_sort.do_ranked_ascend.Given as goal

-- each point passed comes after the one in front of it
abbrev pub invariant-loop-i : goal.invariant-loop-i
invariant-loop-i l = (k : ℕ) (d : Ranked) → k + 1 < l.i → comes_before l.names l.view l.rest l.points (get_or l.ranked k d) (get_or l.ranked (k + 1) d) ≡ true
