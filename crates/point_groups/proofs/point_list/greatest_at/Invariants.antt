use Rattle.std.proofs.Common.{◌≤◌, ◌<◌, ℕ, get_or}
use Rattle.cube_point.specs.declared.point.Entry.{Entry}
use Rattle.point_groups.proofs.point_list.greatest_at.Given as goal

-- none of the coordinates passed is greater
abbrev pub invariant-loop-entry : goal.invariant-loop-entry
invariant-loop-entry l = (k : ℕ) (d : Entry) → k < l.entry-index → get_or (get_or l.points k d).point.at l.dimension 0 ≤ l.greatest
