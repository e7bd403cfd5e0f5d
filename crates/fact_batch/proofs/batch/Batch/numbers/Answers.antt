use Rattle.std.proofs.Common.{◌<◌, ℤ, List, [], length, get_or, sym, ap, ◌∙◌, subst}
use Rattle.std.proofs.lemmas.List.FromFn.{length-map-range_with_len}
use Rattle.fact_model.specs.declared.fact.Fact.{Fact}
use Rattle.fact_batch.specs.Batch.{fact_at, measures_in}
use Rattle.fact_batch.specs.Rows.{row_at}
use Rattle.fact_batch.specs.Values.{values_of}
use Rattle.fact_batch.proofs.Drafts.{measures-at}
use Rattle.fact_batch.proofs.batch.Batch.numbers.Goals as goal

pub row_of-requires-clause-at : goal.row_of-requires-clause-at
row_of-requires-clause-at c =
    let b = c.self.inside in
    let long = length-map-range_with_len (fact_at b.width b.measures (values_of b.slots.items b.texts.items) b.numbers.items) 0 b.rows in
    let lt = subst (λ (facts : List Fact). c.args.at < length facts) (sym c.self.view_is) c.requires in
    subst (λ k. c.args.at < k) long lt

pub returns : goal.returns
returns c =
    let b = c.self.inside in
    let long = length-map-range_with_len (fact_at b.width b.measures (values_of b.slots.items b.texts.items) b.numbers.items) 0 b.rows in
    let lt = subst (λ (facts : List Fact). c.args.at < length facts) (sym c.self.view_is) c.requires in
    c.row_of.ensures
    ∙ (ap (λ (items : List ℤ). row_at b.measures items c.args.at) c.deref.ensures.value
    ∙ measures-at b.width b.measures b.rows c.args.at (values_of b.slots.items b.texts.items) b.numbers.items (subst (λ k. c.args.at < k) long lt)
    ∙ ap (λ (facts : List Fact). get_or (measures_in facts) c.args.at []) c.self.view_is)
