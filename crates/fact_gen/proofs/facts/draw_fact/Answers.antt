use Rattle.std.proofs.Common.{◌++◌, List, length, ap, sym, ◌∙◌, ℤ}
use Rattle.fact_batch.specs.Batch.{Draft}
use Rattle.fact_model.specs.declared.fact.Value.{Value}
use Rattle.fact_gen.specs.Generated.{values_from, measures_from}
use Rattle.fact_gen.proofs.Made.{values_count, measures_count}
use Rattle.fact_gen.proofs.facts.draw_fact.Goals as goal

pub end_fact-requires-clause-values : goal.end_fact-requires-clause-values
end_fact-requires-clause-values c =
    let attrs = c.as_slice.result.now in
    let state = c.args.draws.now.state in
    let values = c.in_ok-draw_values.ensures.values in
    let measures = c.in_ok-draw_measures.ensures.measures in
    ap (λ (d : Draft). length d.values) measures ∙ ap (λ (d : Draft). length d.values) values
    ∙ ap (λ (before : List Value). length (before ++ values_from attrs state)) c.requires.between.values ∙ values_count attrs state ∙ ap length c.as_slice.ensures
    ∙ sym (ap (λ (d : Draft). d.width) measures ∙ ap (λ (d : Draft). d.width) values ∙ c.requires.between.width)

pub end_fact-requires-clause-numbers : goal.end_fact-requires-clause-numbers
end_fact-requires-clause-numbers c =
    let names = c.as_slice-2.result.now in
    let state = c.draw_values.new.draws.state in
    let values = c.in_ok-draw_values.ensures.values in
    let measures = c.in_ok-draw_measures.ensures.measures in
    ap (λ (d : Draft). length d.numbers) measures
    ∙ ap (λ (before : List ℤ). length (before ++ measures_from names state)) (ap (λ (d : Draft). d.numbers) values ∙ c.requires.between.numbers)
    ∙ measures_count names state ∙ ap length c.as_slice-2.ensures
    ∙ sym (ap (λ (d : Draft). d.measures) measures ∙ ap (λ (d : Draft). d.measures) values ∙ c.requires.between.measures)
