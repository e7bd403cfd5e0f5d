use Rattle.std.proofs.Common.{sym, ◌∙◌}
use Rattle.cube_point.proofs.PointOrder.{cmp-down}
use Rattle.page_entry.proofs.Coordinates.{coordinates, down-past, eight, unused-at}
use Rattle.page_entry.proofs.order.compare_with.Goals as goal

pub returns-then-not-is_zero_past : goal.returns-then-not-is_zero_past
returns-then-not-is_zero_past c =
    let a = coordinates c.args.wide c.args.arity c.args.bytes.now in
    let b = c.args.point.now.at in
    let some = c.is_zero_past.ensures.other c.if-not-is_zero_past.true in
    sym (down-past 8 a b some.0 c.args.arity some.1 some.2 some.3 (λ i past. unused-at c.args.wide c.args.arity i c.args.bytes.now past)) ∙ cmp-down a b (eight c.args.wide c.args.arity c.args.bytes.now c.requires.arity) c.is_zero_past.ensures.eight
