use Rattle.std.proofs.Common.{◌≡◌, ◌-◌, ◌++◌, ℕ, drop, ap, ◌∙◌, arith}
use Rattle.std.specs.Prelude.{replicate}
use Rattle.be_numbers.specs.Formats.{many}
use Rattle.page_entry.specs.Entries.{part_of, no_part}
use Rattle.page_entry.proofs.Loops.{read-next}
use Rattle.page_entry.proofs.read.parts_at.Goals as goal

pub loop-i-preserved : goal.loop-i-preserved
loop-i-preserved c = read-next part_of 48 no_part c.part_at.result c.loop-i.i 4 c.args.at c.args.bytes.now c.loop-i.all (omega arith) c.loop-i.invariant c.part_at.ensures

pub returns : goal.returns
returns c = let e : c.loop-i.i ≡ c.args.measures = omega arith in c.loop-i.invariant ∙ ap (λ (n : ℕ). many part_of 48 n (drop c.args.at c.args.bytes.now) ++ replicate (4 - n) no_part) e
