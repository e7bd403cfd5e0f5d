use Rattle.std.proofs.Common.{◌++◌, ◌∙◌, [], ◌∷◌, append-nil, refl, sym, subst, arith}
use Rattle.std.proofs.lemmas.List.{length_push}
use Rattle.site_core.specs.Calls.{Stays}
use Rattle.site_core.specs.Disk.{Files}
use Rattle.site_core.proofs.Run.{Changes-refl, Rests-then}
use Rattle.page_cache.proofs.Keeping.{none-asked, one-more-asked, reads-more}
use Rattle.range_scan.specs.Steps.{ExplainsStop, IsVisited}
use Rattle.range_scan.specs.Visits.{found_in, hits, page_of}
use Rattle.range_scan.proofs.Lists.{ahead-next, top-ahead}
use Rattle.range_scan.proofs.Underway.{answered, found-more, more-asked, named, one-more, room-next, starts, stop-searched, unkept-next}
use Rattle.range_scan.proofs.walk.walk.Goals as goal

pub loop-init : goal.loop-init
loop-init g c =
    let tree = c.args.query.now.tree.now in
    record {
      so_far = λ tells agree. (
        [],
        refl,
        starts tree c.args.query.now.region.now ((g.T.Site.disk c.args.site.now).files tree.file) c.in_ok-ahead.ahead.items c.in_ok-ahead.ensures,
        λ start es given. subst (λ l. g.G.Taker.was_given start l c.args.taker.now) (sym (append-nil es)) given,
        λ room. none-asked c.args.pages.now (g.T.Site.reads c.args.site.now) tree.file,
      );
      ahead = top-ahead tree c.in_ok-ahead.ahead.items c.in_ok-ahead.ensures;
      capacity = refl;
      agrees = λ tells agree. agree;
      lies = λ all. all;
      disk = λ tells. Changes-refl Stays (g.T.Site.disk c.args.site.now) (λ files. refl);
      faults = refl;
      told_faults = refl;
      reads = omega arith;
      writes = refl;
    }

pub visit-requires-clause-from : goal.visit-requires-clause-from
visit-requires-clause-from g c = (ahead-next c.args.query.now.tree.now c.loop.ahead.items c.pop.new.self.items c.in-Some.number c.in-Some.ensures.items c.loop.invariant.ahead).0

pub visit-requires-clause-within : goal.visit-requires-clause-within
visit-requires-clause-within g c = (ahead-next c.args.query.now.tree.now c.loop.ahead.items c.pop.new.self.items c.in-Some.number c.in-Some.ensures.items c.loop.invariant.ahead).1

pub returns-in_err-visit-in-Some-clause-searched : goal.returns-in_err-visit-in-Some-clause-searched
returns-in_err-visit-in-Some-clause-searched g c = λ tells agree.
    let tree = c.args.query.now.tree.now in
    let region = c.args.query.now.region.now in
    let bytes = (g.T.Site.disk c.args.site.now).files tree.file in
    let so_far = c.loop.invariant.so_far tells agree in
    let stop = c.in_err-visit-in-Some.field-0.0 in
    answered tree region bytes stop c.from_residual-in_err-visit-in-Some.result c.from_residual-in_err-visit-in-Some.ensures.1
    (stop-searched tree region bytes so_far.0 c.loop.ahead.items c.pop.new.self.items c.in-Some.number c.in-Some.ensures.items so_far.2
    (omega (arith, so_far.1)) stop c.in_err-visit-in-Some.ensures.names
    (subst (λ (f : Files). ExplainsStop tree (f tree.file) c.in-Some.number stop) (c.loop.invariant.disk tells).files (c.in_err-visit-in-Some.ensures.stop tells (c.loop.invariant.agrees tells agree))))

pub returns-in_err-visit-in-Some-clause-page : goal.returns-in_err-visit-in-Some-clause-page
returns-in_err-visit-in-Some-clause-page g c =
    let tree = c.args.query.now.tree.now in
    let one = ahead-next tree c.loop.ahead.items c.pop.new.self.items c.in-Some.number c.in-Some.ensures.items c.loop.invariant.ahead in
    named tree.first tree.pages c.in-Some.number c.in_err-visit-in-Some.field-0.0 c.from_residual-in_err-visit-in-Some.result c.from_residual-in_err-visit-in-Some.ensures.1 one.0 one.1 c.in_err-visit-in-Some.ensures.names

pub returns-in_err-visit-in-Some-clause-visits : goal.returns-in_err-visit-in-Some-clause-visits
returns-in_err-visit-in-Some-clause-visits g c = λ tells agree.
    let tree = c.args.query.now.tree.now in
    let so_far = c.loop.invariant.so_far tells agree in
    let more = more-asked tree c.args.query.now.region.now ((g.T.Site.disk c.args.site.now).files tree.file) so_far.0 c.loop.ahead.items c.pop.new.self.items c.in-Some.number c.in-Some.ensures.items so_far.2 in
    omega (arith, more, so_far.1, c.in_err-visit-in-Some.ensures.looks.reads, c.loop.invariant.reads)

pub returns-in_err-visit-in-Some-clause-saves : goal.returns-in_err-visit-in-Some-clause-saves
returns-in_err-visit-in-Some-clause-saves g c = λ tells agree room.
    let tree = c.args.query.now.tree.now in
    let bytes = (g.T.Site.disk c.args.site.now).files tree.file in
    let so_far = c.loop.invariant.so_far tells agree in
    let more = reads-more c.args.pages.now c.loop.pages (g.T.Site.reads c.args.site.now) (g.T.Site.reads c.loop.site) tree.file so_far.0 (so_far.4 room) c.in-Some.number
    (g.T.Site.reads c.visit.new.site) c.in_err-visit-in-Some.ensures.saves in
    let few = unkept-next tree c.args.query.now.region.now bytes so_far.0 c.loop.ahead.items c.pop.new.self.items c.in-Some.number c.in-Some.ensures.items so_far.2 c.args.pages.now tree.file in
    omega (arith, more, few)

pub returns-in_err-visit-in-Some-clause-agrees : goal.returns-in_err-visit-in-Some-clause-agrees
returns-in_err-visit-in-Some-clause-agrees g c = λ tells agree. c.in_err-visit-in-Some.ensures.agrees tells (c.loop.invariant.agrees tells agree)

pub returns-in_err-visit-in-Some-clause-lies : goal.returns-in_err-visit-in-Some-clause-lies
returns-in_err-visit-in-Some-clause-lies g c = λ all. c.in_err-visit-in-Some.ensures.lies (c.loop.invariant.lies all)

pub loop-preserved : goal.loop-preserved
loop-preserved g c =
    let tree = c.args.query.now.tree.now in
    let region = c.args.query.now.region.now in
    record {
      so_far = λ tells agree.
          let files = (g.T.Site.disk c.args.site.now).files in
          let bytes = files tree.file in
          let so_far = c.loop.invariant.so_far tells agree in
          let rests = (c.loop.invariant.disk tells).files in
          let still = c.loop.invariant.agrees tells agree in
          let visited = subst (λ (f : Files). IsVisited tree region (f tree.file) c.in-Some.number c.pop.new.self.items c.visit.new.ahead.items) rests (c.in_ok-visit-in-Some.ensures.visited tells still) in (
            so_far.0 ++ c.in-Some.number ∷ [],
            omega (arith, so_far.1, length_push so_far.0 c.in-Some.number),
            one-more tree region bytes so_far.0 c.loop.ahead.items c.pop.new.self.items c.in-Some.number c.in-Some.ensures.items so_far.2 c.visit.new.ahead.items visited,
            λ start es given.
                let before = es ++ found_in tree region bytes so_far.0 in
                let more = c.in_ok-visit-in-Some.ensures.gives tells still start before (so_far.3 start es given) in
                subst (λ l. g.G.Taker.was_given start l c.visit.new.taker) (found-more tree region bytes es so_far.0 c.in-Some.number)
                (subst (λ (f : Files). g.G.Taker.was_given start (before ++ hits region (page_of tree.shape (f tree.file) c.in-Some.number)) c.visit.new.taker) rests more),
            λ room.
                one-more-asked c.args.pages.now c.loop.pages (g.T.Site.reads c.args.site.now) (g.T.Site.reads c.loop.site) tree.file so_far.0 (so_far.4 room) c.in-Some.number
                c.visit.new.pages (g.T.Site.reads c.visit.new.site) c.loop.invariant.capacity
                (room-next tree region bytes so_far.0 c.loop.ahead.items c.pop.new.self.items c.in-Some.number c.in-Some.ensures.items so_far.2 c.args.pages.now tree.file room)
                c.in_ok-visit-in-Some.ensures.keeps c.in_ok-visit-in-Some.ensures.grows c.in_ok-visit-in-Some.ensures.saves,
          );
      ahead = c.in_ok-visit-in-Some.ensures.ahead;
      capacity = c.in_ok-visit-in-Some.ensures.capacity ∙ c.loop.invariant.capacity;
      agrees = λ tells agree. c.in_ok-visit-in-Some.ensures.agrees tells (c.loop.invariant.agrees tells agree);
      lies = λ all. c.in_ok-visit-in-Some.ensures.lies (c.loop.invariant.lies all);
      disk = λ tells. Rests-then (g.T.Site.disk c.args.site.now) (g.T.Site.disk c.loop.site) (g.T.Site.disk c.visit.new.site) (c.loop.invariant.disk tells) (c.in_ok-visit-in-Some.ensures.looks.disk tells);
      faults = c.in_ok-visit-in-Some.ensures.looks.cause.ok ∙ c.loop.invariant.faults;
      told_faults = c.in_ok-visit-in-Some.ensures.looks.told_faults ∙ c.loop.invariant.told_faults;
      reads = omega (arith, c.in_ok-visit-in-Some.ensures.looks.reads, c.loop.invariant.reads);
      writes = c.in_ok-visit-in-Some.ensures.looks.writes ∙ c.loop.invariant.writes;
    }

pub returns-clause-page : goal.returns-clause-page
returns-clause-page g c = ahead-next c.args.query.now.tree.now c.loop.ahead.items c.pop-2.new.self.items c.in-Some-pop.page c.in-Some-pop.ensures.items c.loop.invariant.ahead
