use Rattle.std.proofs.Common.{get_or, ◌≡◌, drop}
use Rattle.spec_points.specs.Answer.{coordinate}
use Rattle.point_groups.specs.Bare.{nowhere}
use Rattle.slice_rows.proofs.keys.coordinate.Given as goal

-- the attributes passed are others
abbrev pub invariant-loop-i : goal.invariant-loop-i
invariant-loop-i l = coordinate (drop l.i l.view) (drop l.i (get_or l.points l.number nowhere).point.at) l.attr ≡ coordinate l.view (get_or l.points l.number nowhere).point.at l.attr
