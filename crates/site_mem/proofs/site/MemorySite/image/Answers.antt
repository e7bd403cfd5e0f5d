use Rattle.site_mem.specs.Tape.{tape_first, tape_steps}
use Rattle.site_mem.proofs.Outcomes.{may_leave, outcome}
use Rattle.site_mem.proofs.site.MemorySite.image.Goals as goal

pub returns-clause-outcomes : goal.returns-clause-outcomes
returns-clause-outcomes c = λ files.
    (outcome (tape_first c.args.self.now.tape) (tape_steps c.args.self.now.tape) files, may_leave (tape_first c.args.self.now.tape) (tape_steps c.args.self.now.tape) files)
