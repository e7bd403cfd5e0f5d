use Rattle.std.proofs.Common.{List, length, sym, ap, ◌∙◌}
use Rattle.std.proofs.lemmas.List.FromFn.{length-map-range_with_len}
use Rattle.fact_model.specs.declared.fact.Fact.{Fact}
use Rattle.fact_batch.specs.Batch.{fact_at}
use Rattle.fact_batch.specs.Values.{values_of}
use Rattle.fact_batch.proofs.batch.Batch.len.Goals as goal

pub returns : goal.returns
returns c =
    let b = c.self.inside in
    sym (length-map-range_with_len (fact_at b.width b.measures (values_of b.slots.items b.texts.items) b.numbers.items) 0 b.rows)
    ∙ ap (λ (facts : List Fact). length facts) c.self.view_is
