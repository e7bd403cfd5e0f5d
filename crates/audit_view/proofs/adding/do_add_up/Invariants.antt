use Rattle.std.proofs.Common.{◌≡◌, ◌+◌, map, take}
use Rattle.audit_points.specs.Kept.{points_of}
use Rattle.spec_points.specs.Entries.{pair_of}
use Rattle.spec_points.specs.Weights.{count_in, weight}
use Rattle.audit_view.proofs.adding.do_add_up.Given as goal

-- the counts of the first points, and what is left, are the facts
abbrev pub invariant-loop-index : goal.invariant-loop-index
invariant-loop-index l = weight count_in (map pair_of (take l.index (points_of l.view))) + l.left ≡ l.facts
