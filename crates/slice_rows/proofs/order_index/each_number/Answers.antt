use Rattle.std.proofs.Common.{◌++◌, ◌∷◌, [], arith, sym, ap, ◌∙◌}
use Rattle.slice_rows.proofs.PickedPoints.{range-more}
use Rattle.slice_rows.proofs.order_index.each_number.Goals as goal

pub loop-number-preserved : goal.loop-number-preserved
loop-number-preserved c = c.in_ok-push.ensures.items ∙ (ap (λ ns. ns ++ c.loop-number.number ∷ []) c.loop-number.invariant ∙ sym (range-more 0 c.loop-number.number c.loop-number.number (omega arith)))
