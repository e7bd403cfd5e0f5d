use Rattle.std.proofs.Common.{◌≡◌, ◌∷◌, reverse, ◌∙◌, ap, rules}
use Rattle.site_mem.specs.declared.step.Step.TheVariants.{Told}
use Rattle.site_mem.proofs.Elapsing.{reverse-push}
use Rattle.site_mem.proofs.tape.fields.note_told.Goals as goal

pub returns-clause-step : goal.returns-clause-step
returns-clause-step c =
    let same : c.in_ok-copy.copy.items ≡ c.args.bytes.now = search rules in
    reverse-push _ _ _ c.in_ok-push.ensures.items ∙ ap (λ b. Told b ∷ reverse c.args.steps.now.items) (c.from_vec.ensures ∙ same)
