use Rattle.std.proofs.Common.{refl}
use Rattle.delta_agg.proofs.Places.{place-more}
use Rattle.delta_agg.proofs.placed.place.Goals as goal

pub loop-i-preserved : goal.loop-i-preserved
loop-i-preserved c =
    place-more c.args.view.now c.args.coordinates.now c.loop-i.at c.loop-i.i _ c.loop-i-test.true c.requires.arity c.loop-i.invariant refl
