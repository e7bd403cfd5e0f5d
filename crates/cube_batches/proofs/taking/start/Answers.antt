use Rattle.cube_batches.proofs.Names.{Answers, Idle, Ok, State, TakesIn, at_error, refl, subst, sym}
use Rattle.cube_batches.proofs.Takings.{begin_attends, begin_between, limit_refuses, starts_not}
use Rattle.cube_batches.proofs.taking.start.Goals as goal

pub returns-in-Ok : goal.returns-in-Ok
returns-in-Ok g c =
    let is = c.in-Ok.ensures in
    let begins = is.begins in
    let fit = begins.fit in
    record {
      takes = λ source given. (
        c.args.store,
        refl,
        record {
          batch = c.args.batch;
          last = _;
          given = given;
          some = c.requires.some;
          format = is.format;
          started = record {
            forest = fit.forest;
            points = fit.points;
            none_made = fit.none_made;
            goes = fit.goes;
            ready = fit.ready;
            closes = fit.closes;
            attends = λ t warehouse belongs. begin_attends c.args.store _ _ warehouse belongs c.args.batch c.args.number c.in-Ok.refresh fit.forest is.last c.requires.fits.due
                ((begins.by_facts t warehouse.facts).begun belongs.stored.read) (fit.stable t) c.requires.some (fit.ready t) fit.none_made;
            any_moment = begin_between g.T.Site c.args.store c.args.site.now c.begin.new.site begins;
            spent = record { reads = begins.calls.reads; writes = begins.calls.writes };
            quiet = record { told = begins.told; cause = tt; disk_faults = begins.calls.cause.ok; told_faults = begins.calls.told_faults };
          };
        },
      );
    }

pub returns-in_ok-reply-in-Err : goal.returns-in_ok-reply-in-Err
returns-in_ok-reply-in-Err g c =
    let is = c.in-Err.ensures in
    record {
      takes = λ source given. subst (λ (s : State). Answers g.T.Site source (Idle c.args.store) s c.args.site.now c.begin.new.site (Ok c.in_ok-reply-in-Err.field-0)) (sym c.set.ensures)
          (limit_refuses g.T.Site source c.args.store c.args.batch _ c.args.site.now c.begin.new.site c.requires.some given c.in-Err.fault is.limit is.begins.handed.untouched
          (λ t told files. g.met.T.Site.only_now c.args.site.now told files t) c.requires.fits.agree is.begins.handed.back c.in_ok-reply-in-Err.field-0 c.in_ok-reply-in-Err.ensures.reply);
    }

pub returns-in_err-reply-in-Err : goal.returns-in_err-reply-in-Err
returns-in_err-reply-in-Err g c =
    let is = c.in-Err.ensures in
    record {
      takes = λ source given. at_error (TakesIn g.T.Site source (Idle c.args.store) c.set.new.self c.args.site.now c.begin.new.site) c.in_err-reply-in-Err.field-0.0 c.from_residual.result
          c.from_residual.ensures.1 (starts_not g.T.Site source c.args.store c.args.batch _ c.args.site.now c.begin.new.site c.requires.some given c.in-Err.fault is.limit is.begins.handed.untouched
          (λ t told files. g.met.T.Site.only_now c.args.site.now told files t) is.begins c.set.new.self c.in_err-reply-in-Err.field-0.0
          c.in_err-reply-in-Err.ensures.stop);
    }
