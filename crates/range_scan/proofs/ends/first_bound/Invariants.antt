use Rattle.range_scan.specs.Ends.{IsOpenBefore}
use Rattle.range_scan.proofs.ends.first_bound.Given as goal

-- in the first dimensions the region holds every used coordinate
abbrev pub invariant-loop-i : goal.invariant-loop-i
invariant-loop-i l = IsOpenBefore l.wide l.i l.region
