use Rattle.std.proofs.Common.{ap, ◌∙◌}
use Rattle.fact_batch.specs.Batch.{measures_in}
use Rattle.fact_batch.specs.Values.{values_of}
use Rattle.fact_batch.proofs.Drafts.{measures-rows}
use Rattle.fact_batch.proofs.batch.Batch.into_numbers.Goals as goal

pub returns : goal.returns
returns c =
    let b = c.self.inside in
    c.from_vec.ensures
    ∙ (measures-rows b.width b.measures b.rows (values_of b.slots.items b.texts.items) b.numbers.items
    ∙ ap measures_in c.self.view_is)
