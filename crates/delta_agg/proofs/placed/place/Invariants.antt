use Rattle.std.proofs.Common.{◌≡◌, take}
use Rattle.delta_agg.specs.Batch.{place_at}
use Rattle.delta_agg.proofs.placed.place.Given as goal

-- the place of the attributes passed
abbrev pub invariant-loop-i : goal.invariant-loop-i
invariant-loop-i l = l.at ≡ place_at (take l.i l.view) l.coordinates
