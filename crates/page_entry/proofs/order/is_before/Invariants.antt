use Rattle.std.proofs.Common.{◌≡◌, ◌-◌, drop}
use Rattle.cube_point.proofs.PointOrder.{cmp_down}
use Rattle.page_entry.proofs.Coordinates.{coordinates}
use Rattle.page_entry.proofs.order.is_before.Given as goal

abbrev pub invariant-loop-skipped : goal.invariant-loop-skipped
invariant-loop-skipped l = cmp_down (l.arity - l.skipped) (coordinates l.wide l.arity (drop l.left l.page)) (coordinates l.wide l.arity (drop l.right l.page)) ≡ cmp_down l.arity (coordinates l.wide l.arity (drop l.left l.page)) (coordinates l.wide l.arity (drop l.right l.page))
