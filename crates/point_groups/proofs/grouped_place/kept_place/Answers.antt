use Rattle.std.proofs.Common.{rules, arith, ◌≡◌, length}
use Rattle.point_groups.proofs.KeptPlaces.{kept-each}
use Rattle.point_groups.proofs.grouped_place.kept_place.Goals as goal

pub returns : goal.returns
returns c =
    let place : length c.args.place.now ≡ 8 = search rules in
    let dims : length c.args.dims.now ≡ 8 = search rules in
    kept-each c.args.dims.now c.args.place.now c.loop-i.kept (omega (arith, c.loop-i.invariant.eight, place)) (omega (arith, place, dims)) (λ k low. c.loop-i.invariant.passed k (omega (arith, low, place)))
