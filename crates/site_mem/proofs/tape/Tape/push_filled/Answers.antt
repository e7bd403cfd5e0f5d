use Rattle.std.proofs.Common.{◌∙◌, arith}
use Rattle.std.specs.Vec.{vec_len}
use Rattle.site_mem.specs.Tape.{tape_first, tape_steps}
use Rattle.site_mem.proofs.Runs.{filled_by, stable_by}
use Rattle.site_mem.proofs.tape.Tape.push_filled.Goals as goal

pub returns-then-run-clause-filled : goal.returns-then-run-clause-filled
returns-then-run-clause-filled c =
    filled_by (tape_first c.args.self.now) (tape_steps c.args.self.now) c.args.file (vec_len c.args.bytes.now) c.run-run.result.end (vec_len c.resize.new.self) (omega (arith, c.run-run.ensures.some)) c.args.bytes.now.items c.resize.new.self.items
    (λ i from low. c.run-run.ensures.same i (omega arith) low ∙ c.if-run.true) c.resize.result c.args.byte c.resize.ensures.items c.resize.ensures.len

pub returns-clause-filled : goal.returns-clause-filled
returns-clause-filled c =
    stable_by (tape_first c.args.self.now) (tape_steps c.args.self.now) c.args.file (vec_len c.args.bytes.now) c.run-run.result.end (vec_len c.push_stable.new.bytes) (omega (arith, c.run-run.ensures.some)) c.args.bytes.now.items c.push_stable.new.bytes.items
    (λ i from low. c.run-run.ensures.same i (omega arith) low ∙ c.if-run.false) c.push_stable.result (λ i. c.args.byte) c.push_stable.ensures.bytes c.push_stable.ensures.length
