use Rattle.cube_run.proofs.Going.{handed}
use Rattle.cube_run.proofs.Running.{runs, unopened, unread}
use Rattle.cube_run.proofs.script_run.attempt.Goals as goal

pub returns-in_err-cache : goal.returns-in_err-cache
returns-in_err-cache g c = record {
  runs = rw (handed _ _ c.from_residual.ensures.1) (unread g.S.Source g.T.Site
      (record { only = g.met.T.Site.only_now; read = g.met.T.Site.read_now; counts = g.met.T.Site.counts_now }) _ _ _ _ c.in_err-cache.field-0.0 c.in_err-cache.ensures.usage);
}

pub returns-in_err-session : goal.returns-in_err-session
returns-in_err-session g c = record {
  runs = rw (handed _ _ c.from_residual-in_err-session.ensures.1) (unopened g.S.Source
      (record { only = g.met.T.Site.only_now; read = g.met.T.Site.read_now; counts = g.met.T.Site.counts_now }) _ _ _ c.in_ok-cache.ensures.valid c.in_err-session.ensures);
}

pub returns : goal.returns
returns g c = record {
  runs = runs (record { only = g.met.T.Site.only_now; read = g.met.T.Site.read_now; counts = g.met.T.Site.counts_now }) _ c.in_ok-cache.ensures.valid c.in_ok-session.ensures c.serve.ensures;
}
