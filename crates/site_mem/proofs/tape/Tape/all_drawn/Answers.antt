use Rattle.std.proofs.Common.{sym, subst, arith}
use Rattle.site_mem.specs.History.{MayLeave}
use Rattle.site_mem.specs.Tape.{tape_first, tape_steps}
use Rattle.site_mem.proofs.Arrays.{files_of-past}
use Rattle.site_mem.proofs.Images.{drawn-four, may_leave-drawn}
use Rattle.site_mem.proofs.tape.Tape.all_drawn.Goals as goal

pub returns-clause-files : goal.returns-clause-files
returns-clause-files c =
    drawn-four (tape_first c.args.self.now) (tape_steps c.args.self.now) (λ file high. files_of-past c.args.self.now.first file (omega (arith, c.args.self.now.four))) c.args.choice _ _ _ _ _ _ _
    c.in_ok-drawn.ensures.text c.in_ok-drawn.ensures.draws c.in_ok-drawn-2.ensures.text c.in_ok-drawn-2.ensures.draws c.in_ok-drawn-3.ensures.text c.in_ok-drawn-3.ensures.draws c.in_ok-drawn-4.ensures.text

pub returns-clause-outcome : goal.returns-clause-outcome
returns-clause-outcome c = subst (MayLeave (tape_first c.args.self.now) (tape_steps c.args.self.now)) (sym (returns-clause-files c)) (may_leave-drawn (tape_first c.args.self.now) (tape_steps c.args.self.now) c.args.choice)
