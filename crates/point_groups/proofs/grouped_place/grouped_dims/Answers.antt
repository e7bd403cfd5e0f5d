use Rattle.std.proofs.Common.{arith}
use Rattle.point_groups.proofs.KeptPlaces.{dims-alike}
use Rattle.point_groups.proofs.grouped_place.grouped_dims.Goals as goal

pub returns : goal.returns
returns c = dims-alike c.args.group.now c.args.view.now c.loop-i.dims
    (omega (arith, c.loop-i.invariant.eight, c.requires.arity))
    (λ k low. c.loop-i.invariant.passed k (omega (arith, low, c.loop-i-test.false)))
    (λ k past. c.loop-i.invariant.rest k (omega (arith, past, c.loop-i.auto.i-end)))
