use Rattle.std.proofs.Common.{ℕ, List, map, ap, sym, ◌∙◌, subst}
use Rattle.std.proofs.lemmas.Result.{err_from_is_err_and}
use Rattle.slice_rows.specs.Grouped.{NeighboursJoin, keyed, picked}
use Rattle.slice_rows.proofs.KeyCells.{each-key, neighbours}
use Rattle.slice_rows.proofs.KeyRows.{in-order, sorted-keys}
use Rattle.slice_rows.proofs.KeyTurns.{squeezed_keys}
use Rattle.slice_rows.proofs.PickedPoints.{ascend-join, ascend-squeezed}
use Rattle.slice_rows.proofs.key_groups.joined_points.Goals as goal

-- ---- no two points have one key

pub returns-then-order-clause-joined : goal.returns-then-order-clause-joined
returns-then-order-clause-joined c =
    let b = c.args.names.now in
    let view = c.args.view.now in
    let group = c.args.group.now in
    let es = c.args.points in
    let order = c.in_ok-order.ensures in
    ap (map (keyed b view group)) c.new.ensures
    ∙ (ascend-squeezed b view group (picked es c.in_ok-order.order.numbers.items) (order.strict.0 c.if-order.true)
    ∙ sorted-keys b view group es (picked es c.in_ok-order.order.numbers.items) order.moved order.sorted)

pub returns-then-order-clause-join : goal.returns-then-order-clause-join
returns-then-order-clause-join c =
    let b = c.args.names.now in
    let view = c.args.view.now in
    let group = c.args.group.now in
    let es = c.args.points in
    let sorted = picked es c.in_ok-order.order.numbers.items in
    let order = c.in_ok-order.ensures in
    each-key b view group es sorted order.moved order.stable (in-order b view group sorted order.sorted) (ascend-join b view group sorted (order.strict.0 c.if-order.true))

-- ---- points of one key are joined

pub returns-clause-joined : goal.returns-clause-joined
returns-clause-joined c =
    let b = c.args.names.now in
    let view = c.args.view.now in
    let group = c.args.group.now in
    let es = c.args.points in
    let sorted = picked es c.in_ok-order.order.numbers.items in
    let order = c.in_ok-order.ensures in
    ap (map (keyed b view group)) c.in_ok-ordered.ensures
    ∙ (c.in_ok-joined.ensures.joined
    ∙ (ap (λ (ns : List ℕ). squeezed_keys b view group (picked es ns)) c.deref.ensures.value
    ∙ sorted-keys b view group es sorted order.moved order.sorted))

pub returns-clause-join : goal.returns-clause-join
returns-clause-join c =
    let b = c.args.names.now in
    let view = c.args.view.now in
    let group = c.args.group.now in
    let es = c.args.points in
    let sorted = picked es c.in_ok-order.order.numbers.items in
    let order = c.in_ok-order.ensures in
    each-key b view group es sorted order.moved order.stable (in-order b view group sorted order.sorted)
    (subst (λ (ns : List ℕ). NeighboursJoin (map (keyed b view group) (picked es ns))) c.deref.ensures.value c.in_ok-joined.ensures.join)

pub returns-in_err-joined-clause-damaged : goal.returns-in_err-joined-clause-damaged
returns-in_err-joined-clause-damaged c =
    let b = c.args.names.now in
    let view = c.args.view.now in
    let group = c.args.group.now in
    let es = c.args.points in
    let sorted = picked es c.in_ok-order.order.numbers.items in
    let order = c.in_ok-order.ensures in
    let p = err_from_is_err_and c.from_residual-in_err-joined.result c.from_residual-in_err-joined.ensures.1 in
    rw p.1 (λ to joins. c.in_err-joined.ensures.damaged (sym p.2 ∙ to)
    (subst (λ (ns : List ℕ). NeighboursJoin (map (keyed b view group) (picked es ns))) (sym c.deref.ensures.value)
    (neighbours b view group es sorted order.moved order.stable (in-order b view group sorted order.sorted) joins)))
