use Rattle.std.proofs.Common.{◌≡◌, ◌+◌, ◌<◌, ◌^◌, max, length, drop, reverse}
use Rattle.site_mem.specs.Unstable.{reach}
use Rattle.site_mem.proofs.image.reach.Given as goal

abbrev pub invariant-loop-step : goal.invariant-loop-step
invariant-loop-step l = (max l.greatest (reach (drop (length l.yielded) (reverse l.steps)) l.file) ≡ reach (reverse l.steps) l.file) × (l.greatest + 1 < 2 ^ 64)
