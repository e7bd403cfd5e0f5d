use Rattle.std.proofs.Common.{◌∙◌, arith}
use Rattle.std.specs.Vec.{vec_len}
use Rattle.site_mem.specs.Tape.{tape_first, tape_steps}
use Rattle.site_mem.proofs.Runs.{drawn_by, undrawn_by}
use Rattle.site_mem.proofs.tape.Tape.push_drawn.Goals as goal

pub returns-then-run-clause-drawn : goal.returns-then-run-clause-drawn
returns-then-run-clause-drawn c = λ start.
    drawn_by (tape_first c.args.self.now) (tape_steps c.args.self.now) c.args.file (vec_len c.args.bytes.now) c.run-run.result.end (vec_len c.push_draws.new.bytes) (omega (arith, c.run-run.ensures.some)) c.args.bytes.now.items c.push_draws.new.bytes.items
    (λ i from low. c.run-run.ensures.same i (omega arith) low ∙ c.if-run.true) c.push_draws.result start c.args.draws.now.state c.push_draws.new.draws.state c.push_draws.ensures.bytes c.push_draws.ensures.length c.push_draws.ensures.state

pub returns-clause-drawn : goal.returns-clause-drawn
returns-clause-drawn c = λ start.
    undrawn_by (tape_first c.args.self.now) (tape_steps c.args.self.now) c.args.file (vec_len c.args.bytes.now) c.run-run.result.end (vec_len c.push_stable.new.bytes) (omega (arith, c.run-run.ensures.some)) c.args.bytes.now.items c.push_stable.new.bytes.items
    (λ i from low. c.run-run.ensures.same i (omega arith) low ∙ c.if-run.false) c.push_stable.result start c.args.draws.now.state c.push_stable.ensures.bytes c.push_stable.ensures.length
