use Rattle.std.proofs.Common.{◌≡◌, ◌∙◌, List, ℕ, Ok, Some, IsTrue, refl, sym, subst, ap, rules, arith}
use Rattle.std.specs.Map.{lookup}
use Rattle.page_fmt.specs.InFiles.{IsPageOf}
use Rattle.page_fmt.specs.Taking.{taken}
use Rattle.page_cache.specs.Giving.{Cache, IsRefused, Name, is_kept, same_name}
use Rattle.page_cache.specs.Keeping.{Agrees}
use Rattle.page_cache.specs.Slots.{cache_in}
use Rattle.page_cache.proofs.Keeping.{after, one-read}
use Rattle.page_cache.proofs.InSlots.{lent-page, lent-same, lent-used}
use Rattle.page_cache.proofs.cache.Pages.page.Goals as goal

pub returns : goal.returns
returns g c =
    let name : Name = (c.args.file, c.args.number) in
    let old = c.self.inside.slots in
    let new = c.fetch.new.slots in
    let cache : Cache = c.args.self.now in
    let files = (g.T.Site.disk c.args.site.now).files in
    let given = c.in-Ok.ensures.given in
    let place = c.in-Some.kept.now in
    let untouched = λ (is : IsTrue (is_kept cache name)). c.in-Ok.ensures.untouched (subst (λ (x : Cache). IsTrue (is_kept x name)) (sym c.self.view_is) is) in
    let used = lent-used name old new given place c.in-Some.ensures in (
      (refl, (λ _. tt), used ∙ (ap (after (cache_in old) name) (sym c.deref.ensures) ∙ ap (λ (x : Cache). after x name c.deref.result.now) c.self.view_is)),
      record {
        page = λ tells agree. subst (IsPageOf (files c.args.file) c.args.number) (sym c.deref.ensures)
            (lent-page name old new given place c.in-Some.ensures (files c.args.file)
            (c.in-Ok.ensures.page tells (subst (Agrees files) (sym c.self.view_is) agree)));
        accepted = subst (λ (p : List ℕ). Ok c.in-Ok.head ≡ taken c.args.shape.now c.args.number p) (sym c.deref.ensures)
            (c.in-Ok.ensures.accepted place (sym c.in-Some.ensures));
        stop = λ _. tt;
        unlawful = λ _ _. tt;
        list = tt;
        same = λ page is. c.deref.ensures ∙ lent-same name old new given place c.in-Some.ensures page (subst (λ (x : Cache). lookup (same_name name) x.kept ≡ Some page) (sym c.self.view_is) is);
        given = λ _. tt;
        reads = one-read cache c.args.file c.args.number {reads = g.T.Site.reads c.fetch.new.site} {before = g.T.Site.reads c.args.site.now} (λ is. omega (arith, ap g.T.Site.reads (untouched is))) (omega (arith, c.in-Ok.ensures.looks.reads));
        untouched = untouched;
        looks = search rules;
      },
    )

pub returns-in-Err : goal.returns-in-Err
returns-in-Err g c =
    let name : Name = (c.args.file, c.args.number) in
    let cache : Cache = c.args.self.now in
    let files = (g.T.Site.disk c.args.site.now).files in
    let kept = λ (is : IsTrue (is_kept cache name)). subst (λ (x : Cache). IsTrue (is_kept x name)) (sym c.self.view_is) is in
    let untouched = λ (is : IsTrue (is_kept cache name)). c.in-Err.ensures.untouched (kept is) in (
      (refl, (λ _. tt), c.in-Err.ensures.as_before ∙ c.self.view_is),
      record {
        page = λ _ _. tt;
        accepted = tt;
        stop = c.in-Err.ensures.stop;
        unlawful = λ tells agree. c.in-Err.ensures.unlawful tells (subst (Agrees files) (sym c.self.view_is) agree);
        list = tt;
        same = λ _ _. tt;
        given = λ is. subst (λ (x : Cache). IsRefused c.args.shape.now x name c.in-Err.stop) c.self.view_is (c.in-Err.ensures.kept (kept is));
        reads = one-read cache c.args.file c.args.number {reads = g.T.Site.reads c.fetch.new.site} {before = g.T.Site.reads c.args.site.now}
            (λ is. omega (arith, ap g.T.Site.reads (untouched is))) (omega (arith, c.in-Err.ensures.looks.reads));
        untouched = untouched;
        looks = search rules;
      },
    )
