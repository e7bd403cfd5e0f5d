use Rattle.std.proofs.Common.{length, refl, rules}
use Rattle.std.proofs.lemmas.Fn.{always_returns_same}
use Rattle.reply_fold.specs.Order.{comes_before}
use Rattle.reply_fold.proofs.Orders.{comes_before-order, places-order}
use Rattle.reply_fold.proofs.order.order_of.Goals as goal

pub returns : goal.returns
returns c =
    let rows = c.args.rows.now in
    let sorted = c.in_ok-sort_by.ensures in
    places-order rows (length rows) _ _ refl c.in_ok-order.ensures sorted.permutation
    (sorted.sorted (comes_before rows) (comes_before-order rows) (always_returns_same _ _ _ (λ a r f g. search rules)))
