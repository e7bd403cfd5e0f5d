use Rattle.std.proofs.Common.{Some, None, sym}
use Rattle.cube_run.proofs.Going.{carried_done, carried_more, carried_none, carried_out, carried_stop, found_reads, handed}
use Rattle.cube_run.proofs.serve.carry_out.Goals as goal

pub loop-command-init : goal.loop-command-init
loop-command-init g c = carried_none g.T.Site _ _ _ _ (λ t told files. g.met.T.Site.only_now c.args.site.now told files t) c.requires

pub loop-command-preserved : goal.loop-command-preserved
loop-command-preserved g c =
    carried_more c.loop-command.invariant _ _
    (found_reads _ _ _ c.in_ok-command.ensures.given c.in_ok-command.ensures.whole c.next_command.ensures.over (Some c.in-Some.command) c.in-Some.is) _ _ _ _ c.in_ok-command-2.ensures.answers

pub returns-in_err-command-2 : goal.returns-in_err-command-2
returns-in_err-command-2 g c =
    rw (handed _ _ c.from_residual-in_err-command-2.ensures.1) (carried_stop c.loop-command.invariant _ _
    (found_reads _ _ _ c.in_ok-command.ensures.given c.in_ok-command.ensures.whole c.next_command.ensures.over (Some c.in-Some.command) c.in-Some.is) _ _ _ _ c.in_err-command-2.ensures.answers)

pub returns-in_err-command : goal.returns-in_err-command
returns-in_err-command g c =
    rw (handed _ _ c.from_residual.ensures.1) (carried_out c.loop-command.invariant _
    (record { all = λ more. sym (c.in_err-command.ensures.kept more); whole = λ going more. sym (c.in_err-command.ensures.kept_whole more); over = c.next_command.ensures.over }))

pub returns : goal.returns
returns g c =
    carried_done c.loop-command.invariant _
    (found_reads _ _ _ c.in_ok-command.ensures.given c.in_ok-command.ensures.whole c.next_command.ensures.over None c.in_default.is) _
    (c.in_ok-command.ensures.none c.in_default.is) (c.in_ok-command.ensures.read c.in_default.is)
