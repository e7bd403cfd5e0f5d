use Rattle.std.proofs.Common.{refl, ◌∙◌, ap}
use Rattle.std.specs.List.{range_with_len}
use Rattle.slice_rows.proofs.PickedPoints.{ascend-order}
use Rattle.slice_rows.proofs.key_order.order_of.Goals as goal

pub returns-then-do_ascend : goal.returns-then-do_ascend
returns-then-do_ascend c =
    ascend-order c.args.names.now c.args.view.now c.args.group.now c.args.points.now _ (c.in_ok-each_number.ensures ∙ ap (range_with_len 0) c.len.ensures) refl (c.do_ascend.ensures.0 c.if-do_ascend.true)
