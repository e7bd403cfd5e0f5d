use Rattle.std.proofs.Common.{ap, ◌∙◌}
use Rattle.fact_batch.specs.Batch.{values_in}
use Rattle.fact_batch.specs.Values.{values_of}
use Rattle.fact_batch.proofs.Drafts.{values-flat}
use Rattle.fact_batch.proofs.Texts.{values-len}
use Rattle.fact_batch.proofs.batch.Batch.values.Goals as goal

pub returns : goal.returns
returns c =
    let b = c.self.inside in
    c.new.ensures
    ∙ ((λ j. values_of (c.as_slice.ensures.value j) (c.as_slice-2.ensures.value j))
    ∙ values-flat b.width b.measures b.rows (values_of b.slots.items b.texts.items) b.numbers.items
    (values-len b.slots.items b.texts.items ∙ c.self.invariant.slots_are)
    ∙ ap values_in c.self.view_is)
