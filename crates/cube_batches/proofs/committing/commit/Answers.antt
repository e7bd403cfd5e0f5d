use Rattle.cube_batches.proofs.Names.{Commits, at_error, refresh_stop}
use Rattle.cube_batches.proofs.Committed.{commits, commits_not, forgotten}
use Rattle.cube_batches.proofs.committing.commit.Goals as goal

pub returns-in_err-store : goal.returns-in_err-store
returns-in_err-store g c =
    let is = c.in_err-store.ensures in
    record {
      commits = at_error (Commits g.T.Site c.args.told c.args.refresh c.args.state.now c.args.site.now c.finish.new.site c.args.pages.now c.args.pages.now) (refresh_stop c.in_err-store.field-0.0) c.from_residual.result
          c.from_residual.ensures.1 (commits_not g.T.Site c.args.told c.args.refresh c.args.site.now c.finish.new.site c.args.pages.now c.in_err-store.field-0.0
          is.finishes c.args.state.now);
    }

pub returns : goal.returns
returns g c =
    let is = c.in_ok-store.ensures in
    record {
      commits = commits g.T.Site c.args.told c.args.refresh c.args.site.now c.finish.new.site c.args.pages.now c.in_ok-store.store
          is.finishes is.finished is.opened is.next c.clear.new.self
          (forgotten c.args.pages.now c.clear.new.self c.clear.ensures.capacity c.clear.ensures.empty) c.set.new.self c.set.ensures c.acknowledge.result c.acknowledge.ensures;
    }
