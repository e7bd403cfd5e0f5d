use Rattle.std.proofs.Common.{get_or, refl, sym, ◌∙◌, arith}
use Rattle.slice_rows.proofs.ViewKeys.{coordinate-here, coordinate-later, coordinate-end}
use Rattle.slice_rows.proofs.value_ranks.greatest_code.Goals as goal

pub loop-i-init : goal.loop-i-init
loop-i-init c = λ place. refl

pub loop-i-preserved : goal.loop-i-preserved
loop-i-preserved c = λ place. sym (coordinate-later c.args.view.now place c.args.attr c.loop-i.i c.if-view-i.false) ∙ c.loop-i.invariant place

pub returns-then-view-i : goal.returns-then-view-i
returns-then-view-i c = λ k d low.
    let place = (get_or c.args.points.now k d).point.at in
    omega (arith, c.loop-i.invariant place, coordinate-here c.args.view.now place c.args.attr c.loop-i.i c.loop-i-test.true c.if-view-i.true, c.greatest.ensures k d low)

pub returns : goal.returns
returns c = λ k d low.
    let place = (get_or c.args.points.now k d).point.at in
    omega (arith, c.loop-i.invariant place, coordinate-end c.args.view.now place c.args.attr c.loop-i.i (omega (arith, c.loop-i-test.false)))
