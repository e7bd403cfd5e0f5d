use Rattle.std.proofs.Common.{◌++◌, ◌∷◌, [], sym, ap, ◌∙◌}
use Rattle.reply_fold.proofs.Orders.{range-more}
use Rattle.reply_fold.proofs.order.each_place.Goals as goal

pub loop-place-preserved : goal.loop-place-preserved
loop-place-preserved c = c.in_ok-push.ensures.items ∙ (ap (λ ns. ns ++ c.loop-place.place ∷ []) c.loop-place.invariant ∙ sym (range-more c.loop-place.place))
