use Rattle.cube_session.proofs.Names.{sym, subst, ap, Some, Ok, Err, Stop}
use Rattle.cube_session.specs.Session.{Starts}
use Rattle.cube_session.proofs.Openings.{Opens, starts, starts_not}
use Rattle.cube_session.proofs.session.Session.start.Goals as goal

pub returns-in-Ok : goal.returns-in-Ok
returns-in-Ok g c =
    let is : Opens g.T.Site c.args.site.now c.open_store.new.site (Ok c.in-Ok.found) = assumption c.in-Ok.ensures in
    starts g.T.Site c.args.site.now c.open_store.new.site c.args.cache c.in-Ok.found _ is (ap Some c.opened.ensures) c.in_ok-pages.ensures.capacity c.in_ok-pages.ensures.empty

pub returns-in-Err : goal.returns-in-Err
returns-in-Err g c =
    let is : Opens g.T.Site c.args.site.now c.open_store.new.site (Err c.in-Err.stop) = assumption c.in-Err.ensures in
    subst (λ (s : Stop). Starts g.T.Site c.args.cache c.args.site.now c.open_store.new.site (Err s)) (sym c.from.ensures) (starts_not g.T.Site c.args.site.now c.open_store.new.site c.args.cache c.in-Err.stop is)
