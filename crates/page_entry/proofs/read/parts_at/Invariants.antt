use Rattle.std.proofs.Common.{◌≡◌, ◌-◌, ◌++◌, drop}
use Rattle.std.specs.Prelude.{replicate}
use Rattle.be_numbers.specs.Formats.{many}
use Rattle.page_entry.specs.Entries.{part_of, no_part}
use Rattle.page_entry.proofs.read.parts_at.Given as goal

abbrev pub invariant-loop-i : goal.invariant-loop-i
invariant-loop-i l = l.all ≡ many part_of 48 l.i (drop l.at l.bytes) ++ replicate (4 - l.i) no_part
