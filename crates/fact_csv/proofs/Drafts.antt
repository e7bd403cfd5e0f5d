-- What is new in a draft.
use Rattle.std.proofs.Common.{◌≡◌, List, ℤ, sym, ap, ◌∙◌}
use Rattle.fact_batch.specs.Batch.{Draft}
use Rattle.fact_model.specs.declared.fact.Value.{Value}

module _ (start old new : Draft) where
  -- values are all that is new
  pub values_more : (values : List Value) → old ≡ record start { values = old.values } → new ≡ record old { values = values } → new ≡ record start { values = new.values }
  values_more values so_far more =
      more ∙ ap (λ (d : Draft). record d { values = values }) so_far ∙ ap (λ vs. record start { values = vs }) (sym (ap (λ (d : Draft). d.values) more))

  -- numbers are all that is new
  pub numbers_more : (numbers : List ℤ) → old ≡ record start { numbers = old.numbers } → new ≡ record old { numbers = numbers } → new ≡ record start { numbers = new.numbers }
  numbers_more numbers so_far more =
      more ∙ ap (λ (d : Draft). record d { numbers = numbers }) so_far ∙ ap (λ zs. record start { numbers = zs }) (sym (ap (λ (d : Draft). d.numbers) more))
