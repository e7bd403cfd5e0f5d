use Rattle.std.proofs.Common.{◌≡◌, List, ℕ, length}
use Rattle.script_lang.specs.Reading.{to_come, whole_with, ready}
use Rattle.script_lang.proofs.lines.Lines.next_command.Given as goal

abbrev pub invariant-loop-self : goal.invariant-loop-self
invariant-loop-self l = record {
  over : l.self.over ≡ l.fn.self.over;
  to_come : (more : List ℕ) → to_come l.fn.self more ≡ to_come l.self more;
  whole : (more : List ℕ) → whole_with l.fn.self more ≡ whole_with l.self more;
  ready : ready l.fn.self ≡ ready l.self;
}

abbrev pub decreases-loop-self : goal.decreases-loop-self
decreases-loop-self l = length l.self.rest
