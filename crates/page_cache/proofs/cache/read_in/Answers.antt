use Rattle.std.proofs.Common.{[], List, ℕ, ap, subst}
use Rattle.std.specs.Option.{option_map_or}
use Rattle.std.specs.declared.alloc.Global.{Global}
use Rattle.std.specs.declared.boxed.Box.{Box}
use Rattle.page_fmt.specs.InFiles.{IsPageOf}
use Rattle.page_cache.proofs.cache.read_in.Goals as goal

pub returns-clause-page : goal.returns-clause-page
returns-clause-page g c = λ tells.
    let put = c.in_ok-put_in.ensures.put in (
      put.0,
      put.1,
      subst (IsPageOf ((g.T.Site.disk c.args.site.now).files c.args.name.0) c.args.name.1)
          (ap (λ o. option_map_or (λ (b : Box (List ℕ) Global). b.value) o []) put.2) (c.in_ok-read.ensures.page tells).ok,
    )
