use Rattle.std.proofs.Common.{◌≡◌, map, take}
use Rattle.slice_rows.specs.Keys.{number_in}
use Rattle.slice_rows.proofs.rank_sort.numbers_of.Given as goal

-- the numbers of the points passed
abbrev pub invariant-loop-point : goal.invariant-loop-point
invariant-loop-point l = l.numbers.items ≡ map number_in (take l.point-index l.ranked)
