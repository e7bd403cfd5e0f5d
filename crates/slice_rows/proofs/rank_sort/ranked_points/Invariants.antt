use Rattle.std.proofs.Common.{◌≡◌, All, map, take}
use Rattle.slice_rows.specs.Keys.{IsRanked, entry_in}
use Rattle.slice_rows.proofs.rank_sort.ranked_points.Given as goal

-- the points passed have their numbers and their ranks
abbrev pub invariant-loop-number : goal.invariant-loop-number
invariant-loop-number l = record {
  points : map (entry_in l.points) l.ranked.items ≡ take l.number l.points;
  ranks : All (IsRanked l.names l.view l.ranks l.points) l.ranked.items;
}
