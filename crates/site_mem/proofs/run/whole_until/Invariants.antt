use Rattle.std.proofs.Common.{◌<◌, ◌≤◌, length, drop, reverse}
use Rattle.site_mem.proofs.Tearing.{WholeSoFar}
use Rattle.site_mem.proofs.run.whole_until.Given as goal

abbrev pub invariant-loop-step : goal.invariant-loop-step
invariant-loop-step l = record {
  some : l.place < l.end;
  within : l.end ≤ l.limit;
  so_far : WholeSoFar (reverse l.steps) (drop (length l.yielded) (reverse l.steps)) l.file l.place l.end;
}
