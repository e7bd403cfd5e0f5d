use Rattle.std.proofs.Common.{◌≡◌, ◌-◌}
use Rattle.cube_point.proofs.PointOrder.{cmp_down}
use Rattle.page_entry.proofs.Coordinates.{coordinates}
use Rattle.page_entry.proofs.order.compare_used.Given as goal

abbrev pub invariant-loop-skipped : goal.invariant-loop-skipped
invariant-loop-skipped l = cmp_down (l.arity - l.skipped) (coordinates l.wide l.arity l.bytes) l.point.at ≡ cmp_down l.arity (coordinates l.wide l.arity l.bytes) l.point.at
