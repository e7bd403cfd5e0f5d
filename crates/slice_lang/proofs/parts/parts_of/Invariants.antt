use Rattle.std.proofs.Common.{◌≤◌}
use Rattle.slice_lang.proofs.PartSteps.{AreCut}
use Rattle.slice_lang.proofs.parts.parts_of.Given as goal

abbrev pub invariant-loop-at : goal.invariant-loop-at
invariant-loop-at l = record {
  begun : l.start ≤ l.at;
  cut : AreCut l.separator l.end l.text l.parts.items l.start l.quoted l.at;
}
