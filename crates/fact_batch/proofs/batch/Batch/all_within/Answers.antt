use Rattle.std.proofs.Common.{List, ap, ◌∙◌}
use Rattle.std.specs.List.{list_all}
use Rattle.fact_model.specs.declared.fact.Fact.{Fact}
use Rattle.fact_model.specs.declared.fact.Value.{Value}
use Rattle.fact_batch.specs.declared.values.Slot.{Slot}
use Rattle.fact_batch.specs.Batch.{are_within}
use Rattle.fact_batch.specs.Values.{is_slot_within, is_within, values_of}
use Rattle.fact_batch.proofs.Drafts.{facts_over, values-flat, values-tested}
use Rattle.fact_batch.proofs.Texts.{slots-within, values-len}
use Rattle.fact_batch.proofs.batch.Batch.all_within.Goals as goal

pub returns : goal.returns
returns c =
    let b = c.self.inside in
    let limit = c.args.limit in
    let vs = values_of b.slots.items b.texts.items in
    c.slots_within.ensures
    ∙ (ap (λ (slots : List Slot). list_all (is_slot_within limit) slots) c.deref.ensures.value
    ∙ (slots-within limit b.slots.items b.texts.items
    ∙ (ap (λ (values : List Value). list_all (is_within limit) values)
    (values-flat b.width b.measures b.rows vs b.numbers.items (values-len b.slots.items b.texts.items ∙ c.self.invariant.slots_are))
    ∙ (values-tested (is_within limit) (facts_over b.width b.measures b.rows vs b.numbers.items) ∙ ap (λ (facts : List Fact). are_within limit facts) c.self.view_is))))
