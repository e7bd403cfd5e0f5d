use Rattle.std.proofs.Common.{◌≡◌, ◌++◌, map, take}
use Rattle.point_groups.specs.Bare.{bare}
use Rattle.point_groups.proofs.point_list.close_each.Given as goal

-- the points passed are closed
abbrev pub invariant-loop-entry : goal.invariant-loop-entry
invariant-loop-entry l = l.closed ≡ l.fn.closed ++ map bare (take l.entry-index l.points)
