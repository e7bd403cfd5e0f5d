use Rattle.std.proofs.Common.{◌∷◌, reverse, ◌∙◌, ap}
use Rattle.site_mem.specs.declared.step.Step.TheVariants.{Tore}
use Rattle.site_mem.proofs.Elapsing.{reverse-push}
use Rattle.site_mem.proofs.tape.fields.redo_tear.Goals as goal

pub returns-clause-step : goal.returns-clause-step
returns-clause-step c = reverse-push _ _ _ c.in_ok-push.ensures.items ∙ ap (λ r. Tore r ∷ reverse c.args.steps.now.items) c.in_ok-copy.ensures
