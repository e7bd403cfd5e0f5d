use Rattle.std.proofs.Common.{get_or, sym, ◌∙◌, arith}
use Rattle.point_groups.specs.Bare.{nowhere}
use Rattle.slice_rows.proofs.ViewKeys.{coordinate-here, coordinate-later, coordinate-end}
use Rattle.slice_rows.proofs.keys.coordinate.Goals as goal

pub returns-then-view-i : goal.returns-then-view-i
returns-then-view-i c =
    c.coordinate.ensures
    ∙ (sym (coordinate-here c.args.view.now (get_or c.args.points.now c.args.number nowhere).point.at c.args.attr c.loop-i.i c.loop-i-test.true c.if-view-i.true)
    ∙ c.loop-i.invariant)

pub loop-i-preserved : goal.loop-i-preserved
loop-i-preserved c =
    sym (coordinate-later c.args.view.now (get_or c.args.points.now c.args.number nowhere).point.at c.args.attr c.loop-i.i c.if-view-i.false) ∙ c.loop-i.invariant

pub returns : goal.returns
returns c = sym (coordinate-end c.args.view.now (get_or c.args.points.now c.args.number nowhere).point.at c.args.attr c.loop-i.i (omega (arith, c.loop-i-test.false))) ∙ c.loop-i.invariant
