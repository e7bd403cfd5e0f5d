use Rattle.std.proofs.Common.{◌+◌, ◌-◌}
use Rattle.cube_run.proofs.Serving.{HasServed}
use Rattle.cube_run.proofs.serve.serve.Given as goal

abbrev pub invariant-loop-lines : goal.invariant-loop-lines
invariant-loop-lines g l = HasServed g.S.Source g.T.Site l.fn.session.held l.session.held l.session.pages l.lines l.taken l.limit l.fn.source l.source l.fn.site l.site

abbrev pub decreases-loop-lines : goal.decreases-loop-lines
decreases-loop-lines g l = l.limit + 1 - l.taken
