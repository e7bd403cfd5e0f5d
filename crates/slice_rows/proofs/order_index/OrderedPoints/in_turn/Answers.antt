use Rattle.std.proofs.Common.{◌≡◌, length, sym, ap, ◌∙◌, subst}
use Rattle.slice_rows.specs.Grouped.{AreNumbers, picked}
use Rattle.slice_rows.proofs.PickedPoints.{all-numbers, picked-all}
use Rattle.slice_rows.proofs.order_index.OrderedPoints.in_turn.Goals as goal

pub invariant_of-result : goal.invariant_of-result
invariant_of-result c =
    let es = c.args.points in
    let long : c.len.result ≡ length es = c.len.ensures in
    subst (AreNumbers es) (sym c.in_ok-numbers.ensures) (all-numbers es c.len.result long)

pub returns : goal.returns
returns c =
    let es = c.args.points in
    let long : c.len.result ≡ length es = c.len.ensures in
    ap (picked es) c.in_ok-numbers.ensures ∙ picked-all es c.len.result long
