use Rattle.std.proofs.Common.{get_or}
use Rattle.point_groups.specs.Bare.{nowhere}
use Rattle.slice_rows.proofs.RankKeys.{IsBegun}
use Rattle.slice_rows.proofs.rank_sort.rank_of.Given as goal

-- the ranks passed are in the number, with room for the others
abbrev pub invariant-loop-table : goal.invariant-loop-table
invariant-loop-table l = IsBegun l.names l.view (get_or l.points l.number nowhere) l.ranks l.table-index l.rank
