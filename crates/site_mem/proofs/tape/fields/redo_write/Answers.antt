use Rattle.std.proofs.Common.{◌∷◌, reverse, ◌∙◌, ap}
use Rattle.site_mem.specs.declared.step.Step.TheVariants.{Wrote}
use Rattle.site_mem.proofs.Elapsing.{on_ok, reverse-push}
use Rattle.site_mem.proofs.tape.fields.redo_write.Goals as goal

pub returns-else-is_err-clause-step : goal.returns-else-is_err-clause-step
returns-else-is_err-clause-step c =
    on_ok c.overwrite_file-done.result c.overwrite_file-done.ensures.ok
    (λ done. reverse-push _ _ _ c.in_ok-push.ensures.items ∙ ap (λ r. Wrote r ∷ reverse c.args.steps.now.items) c.in_ok-copy.ensures)
