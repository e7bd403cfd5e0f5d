use Rattle.std.proofs.Common.{length, drop, reverse}
use Rattle.site_mem.proofs.Tearing.{TornSoFar}
use Rattle.site_mem.proofs.run.torn_until.Given as goal

abbrev pub invariant-loop-step : goal.invariant-loop-step
invariant-loop-step l = TornSoFar (reverse l.steps) (drop (length l.yielded) (reverse l.steps)) l.file l.place l.end
