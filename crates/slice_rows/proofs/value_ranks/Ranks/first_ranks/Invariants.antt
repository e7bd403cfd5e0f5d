use Rattle.std.proofs.Common.{◌≡◌, map}
use Rattle.std.specs.List.{range_with_len}
use Rattle.slice_rows.specs.Ranks.{rank_by}
use Rattle.slice_rows.proofs.value_ranks.Ranks.first_ranks.Given as goal

-- the ranks of the coordinates passed
abbrev pub invariant-loop-code : goal.invariant-loop-code
invariant-loop-code l = l.ranks.items ≡ map (rank_by l.names l.self) (range_with_len 0 l.code)
