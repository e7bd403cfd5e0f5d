use Rattle.std.proofs.Common.{length}
use Rattle.cube_run.proofs.Names.{ready}
use Rattle.cube_run.proofs.Going.{HasCarried}
use Rattle.cube_run.proofs.serve.carry_out.Given as goal

abbrev pub invariant-loop-command : goal.invariant-loop-command
invariant-loop-command g l = HasCarried g.T.Site l.fn.session.held l.session.held l.fn.lines l.lines l.fn.site l.site l.session.pages

abbrev pub decreases-loop-command : goal.decreases-loop-command
decreases-loop-command g l = length (ready l.lines)
