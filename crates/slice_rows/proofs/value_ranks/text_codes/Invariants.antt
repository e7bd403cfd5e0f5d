use Rattle.std.proofs.Common.{◌<◌, ℕ, get_or}
use Rattle.cube_point.specs.declared.point.Entry.{Entry}
use Rattle.spec_points.specs.Answer.{coordinate}
use Rattle.slice_rows.specs.Ranks.{IsKnown}
use Rattle.slice_rows.proofs.value_ranks.text_codes.Given as goal

-- the codes of the points passed are known
abbrev pub invariant-loop-number : goal.invariant-loop-number
invariant-loop-number l = (k : ℕ) (d : Entry) → k < l.number → IsKnown l.names l.attr l.codes.keys (coordinate l.view (get_or l.points k d).point.at l.attr)
