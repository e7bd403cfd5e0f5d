use Rattle.script_lang.specs.declared.command.Command.TheVariants as says
use Rattle.cube_batches.proofs.Names.{Body, Idle, ap}
use Rattle.cube_batches.proofs.Takings.{begin_between}
use Rattle.cube_batches.proofs.Upgrades.{upgrade_attends, upgrade_ends, upgrade_stops}
use Rattle.cube_batches.proofs.upgrading.remake.Goals as goal

pub returns-in-Ok : goal.returns-in-Ok
returns-in-Ok g c =
    let is = c.in-Ok.ensures in
    let begins = is.begins in
    let fit = begins.fit in
    record {
      carried = c.commit.ensures.commits says.Upgrade (Idle c.args.store) c.args.site.now (upgrade_ends g.T.Site c.args.store c.requires.narrow c.args.site.now c.begin_upgrade.new.site c.in-Ok.refresh (record {
        forest = fit.forest;
        points = fit.points;
        none_made = fit.none_made;
        goes = fit.goes;
        ready = fit.ready;
        closes = fit.closes;
        attends = λ t warehouse belongs. upgrade_attends c.args.store _ _ warehouse belongs c.in-Ok.refresh fit.forest is.next ((begins.by_facts t warehouse.facts).begun belongs.stored.read) (fit.stable t)
            (fit.ready t) fit.none_made;
        any_moment = begin_between g.T.Site c.args.store c.args.site.now c.begin_upgrade.new.site begins;
        spent = record { reads = begins.calls.reads; writes = begins.calls.writes };
        quiet = record { told = begins.told; cause = tt; disk_faults = begins.calls.cause.ok; told_faults = begins.calls.told_faults };
      }) (ap (λ (b : Body). b.format) is.next));
    }

pub returns-in-Err : goal.returns-in-Err
returns-in-Err g c =
    let is = c.in-Err.ensures in
    record {
      carried = upgrade_stops g.T.Site c.args.store c.requires.narrow c.args.site.now c.begin_upgrade.new.site c.in-Err.fault is.begins is.why
          is.begins.handed.untouched (λ t told files. g.met.T.Site.only_now c.args.site.now told files t) c.args.state.now c.args.pages.now c.requires.ready c.stop_of.result c.stop_of.ensures;
    }
