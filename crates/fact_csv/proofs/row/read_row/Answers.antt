use Rattle.std.proofs.Common.{◌≡◌, ◌≤◌, ◌+◌, length, ap, sym, ◌∙◌, arith, rules}
use Rattle.csv.specs.Records.{fields_of}
use Rattle.fact_batch.specs.Batch.{Draft}
use Rattle.fact_csv.proofs.Agreements.{values_count, numbers_count}
use Rattle.fact_csv.proofs.row.read_row.Goals as goal

pub end_fact-requires-clause-values : goal.end_fact-requires-clause-values
end_fact-requires-clause-values c =
    let attrs = c.as_slice-attrs.result.now in
    let fields = fields_of c.args.fields.now in
    let short : length attrs ≤ length fields = search rules in
    let rest = c.in_ok-read_measures.ensures.rest in
    ap (λ (d : Draft). length d.values) rest
    ∙ values_count c.args.row attrs fields _ short c.in_ok-read_values.ensures.read ∙ ap length c.as_slice-attrs.ensures
    ∙ sym (ap (λ (d : Draft). d.width) rest ∙ ap (λ (d : Draft). d.width) c.in_ok-read_values.ensures.rest ∙ c.requires.between.width)

pub end_fact-requires-clause-numbers : goal.end_fact-requires-clause-numbers
end_fact-requires-clause-numbers c =
    let attrs = length c.as_slice-attrs.result.now in
    let fields = fields_of c.args.fields.now in
    let all : length fields ≡ attrs + length c.args.schema.now.measures = search rules in
    numbers_count c.args.row attrs fields _ c.in_ok-read_measures.ensures.read ∙ omega (arith, all)
    ∙ sym (ap (λ (d : Draft). d.measures) c.in_ok-read_measures.ensures.rest ∙ ap (λ (d : Draft). d.measures) c.in_ok-read_values.ensures.rest ∙ c.requires.between.measures)
