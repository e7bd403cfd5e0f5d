use Rattle.std.proofs.Common.{◌+◌, ◌-◌, ◌/◌, ◌<◌, length, arith, sym, ◌∙◌}
use Rattle.audit_points.specs.Kept.{points_of}
use Rattle.audit_view.proofs.Order.{equal-stands, greater-above, less-below}
use Rattle.audit_view.proofs.finding.halve.Goals as goal

pub loop-low-preserved-in-Less : goal.loop-low-preserved-in-Less
loop-low-preserved-in-Less c =
    let inv = c.loop-low.invariant in
    let middle = c.loop-low.low + (c.loop-low.high - c.loop-low.low) / 2 in
    let inside : middle < length (points_of c.args.view.now) = omega arith in
    record {
      bounds = omega arith;
      inside = inv.inside;
      below = λ order. less-below (points_of c.args.view.now) c.args.point.now.at order c.point.result middle c.point.ensures.point inside (sym c.compare.ensures ∙ c.in-Less.is);
      above = inv.above;
    }

pub returns-in-Equal-clause-found : goal.returns-in-Equal-clause-found
returns-in-Equal-clause-found c =
    let middle = c.loop-low.low + (c.loop-low.high - c.loop-low.low) / 2 in
    let inside : middle < length (points_of c.args.view.now) = omega arith in
    equal-stands (points_of c.args.view.now) c.args.point.now.at c.point.result middle c.point.ensures.point inside (sym c.compare.ensures ∙ c.in-Equal.is)

pub loop-low-preserved : goal.loop-low-preserved
loop-low-preserved c =
    let inv = c.loop-low.invariant in
    let middle = c.loop-low.low + (c.loop-low.high - c.loop-low.low) / 2 in
    let inside : middle < length (points_of c.args.view.now) = omega arith in
    record {
      bounds = omega arith;
      inside = omega arith;
      below = inv.below;
      above = λ order. greater-above (points_of c.args.view.now) c.args.point.now.at order c.point.result middle c.point.ensures.point inside (sym c.compare.ensures ∙ c.in-Greater.is);
    }
