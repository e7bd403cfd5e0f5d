use Rattle.std.proofs.Common.{sym, subst}
use Rattle.site_mem.specs.History.{MayLeave, files_of}
use Rattle.site_mem.specs.Laws.{read_now}
use Rattle.site_mem.specs.Tape.{tape_first, tape_steps}
use Rattle.site_mem.proofs.Images.{left_if, may_leave-stable}
use Rattle.site_mem.proofs.tape.Tape.image.Goals as goal

pub returns-in-0-clause-outcome : goal.returns-in-0-clause-outcome
returns-in-0-clause-outcome c =
    let tape = c.args.self.now in
    left_if (tape_first tape) (tape_steps tape) (files_of tape.files) (subst (MayLeave (tape_first tape) (tape_steps tape)) (sym tape.files_are) (read_now (tape_first tape) (tape_steps tape))) c.texts.result c.texts.ensures

pub returns-in-1-clause-outcome : goal.returns-in-1-clause-outcome
returns-in-1-clause-outcome c =
    let tape = c.args.self.now in
    left_if (tape_first tape) (tape_steps tape) (files_of tape.stable) (subst (MayLeave (tape_first tape) (tape_steps tape)) (sym tape.stable_are) (may_leave-stable (tape_first tape) (tape_steps tape))) c.texts-in-1.result c.texts-in-1.ensures
