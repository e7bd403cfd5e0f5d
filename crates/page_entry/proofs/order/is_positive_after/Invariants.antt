use Rattle.std.proofs.Common.{◌≡◌, ◌-◌, take, drop}
use Rattle.std.specs.List.{list_all}
use Rattle.cube_point.proofs.PointOrder.{cmp_down}
use Rattle.page_entry.proofs.Coordinates.{coordinates}
use Rattle.page_entry.proofs.Following.{positive}
use Rattle.page_entry.proofs.order.is_positive_after.Given as goal

-- those passed are equal, so they tell neither
abbrev pub invariant-loop-skipped : goal.invariant-loop-skipped
invariant-loop-skipped l = record {
  down : cmp_down (l.arity - l.skipped) (coordinates l.wide l.arity (drop l.last l.page)) (coordinates l.wide l.arity (drop l.at l.page)) ≡ cmp_down l.arity (coordinates l.wide l.arity (drop l.last l.page)) (coordinates l.wide l.arity (drop l.at l.page));
  front : list_all positive (take (l.arity - l.skipped) (coordinates l.wide l.arity (drop l.at l.page))) ≡ list_all positive (take l.arity (coordinates l.wide l.arity (drop l.at l.page)));
}
