use Rattle.std.proofs.Common.{◌∙◌, ap, is_some, sym}
use Rattle.page_cache.specs.Slots.{cache_in}
use Rattle.page_cache.proofs.InSlots.{found-kept, refused-unlawful}
use Rattle.page_cache.proofs.cache.fetch.Goals as goal

pub returns-in-Ok-Some-clause-given : goal.returns-in-Ok-Some-clause-given
returns-in-Ok-Some-clause-given g c = c.in-Ok-Some.ensures.given (ap is_some c.in-Ok-Some.field-0-is)

pub returns-in-Ok-Some-clause-page : goal.returns-in-Ok-Some-clause-page
returns-in-Ok-Some-clause-page g c = λ tells agree.
    found-kept c.args.name c.args.slots.now c.use_kept.new.slots (c.in-Ok-Some.ensures.given (ap is_some c.in-Ok-Some.field-0-is))
    (sym c.in-Ok-Some.ensures.kept ∙ ap is_some c.in-Ok-Some.field-0-is) (g.T.Site.disk c.args.site.now).files agree

pub returns-in-Err-clause-unlawful : goal.returns-in-Err-clause-unlawful
returns-in-Err-clause-unlawful g c = λ tells agree.
    refused-unlawful c.args.shape.now (cache_in c.args.slots.now) c.args.name c.in-Err.stop (g.T.Site.disk c.args.site.now).files agree c.in-Err.ensures.refused
