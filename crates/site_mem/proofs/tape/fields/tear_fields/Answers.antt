use Rattle.site_mem.proofs.Elapsing.{reverse-push}
use Rattle.site_mem.proofs.tape.fields.tear_fields.Goals as goal

pub returns-clause-step : goal.returns-clause-step
returns-clause-step c = let r = c.in_ok-range.ensures in (c.in_ok-range.range, r, reverse-push _ _ _ c.in_ok-push.ensures.items)
