use Rattle.std.proofs.Common.{◌∙◌, ◌+◌, ◌-◌, ◌<◌, ◌++◌, ◌∷◌, [], length, drop, ap, sym, arith, rules, SFits}
use Rattle.std.specs.Int.{w128}
use Rattle.std.proofs.lemmas.Int.{to_z-of_z}
use Rattle.csv.specs.Records.{fields_of}
use Rattle.fact_batch.specs.Batch.{Draft}
use Rattle.fact_csv.specs.Batch.{measure_in}
use Rattle.fact_csv.proofs.Answers.{refused, taken, finished}
use Rattle.fact_csv.proofs.Drafts.{numbers_more}
use Rattle.fact_csv.proofs.Items.{behind, as_far, past_all}
use Rattle.fact_csv.proofs.row.read_measures.Goals as goal

pub returns-in_err-number-clause-refused : goal.returns-in_err-number-clause-refused
returns-in_err-number-clause-refused c =
    let i = c.loop-i.i in
    let attrs = c.args.attrs in
    let fields = fields_of c.args.fields.now in
    let from = c.loop-i.invariant.from in
    let low : i < length fields = omega (arith, c.loop-i-test.true, c.len-i-end.ensures) in
    refused (measure_in c.args.row) (attrs + 1) (drop attrs fields) (i - attrs) (i + 1) c.field.result.now
    (as_far attrs fields i from low) (omega (arith, from)) (behind attrs fields i _ [] from low c.field.ensures)
    c.loop-i.builder.numbers c.loop-i.invariant.taken _ c.in_err-number.field-0.0 c.from_residual.ensures.1 (λ _. sym c.in_err-number.ensures)

pub loop-i-preserved : goal.loop-i-preserved
loop-i-preserved c =
    let i = c.loop-i.i in
    let attrs = c.args.attrs in
    let fields = fields_of c.args.fields.now in
    let from = c.loop-i.invariant.from in
    let low : i < length fields = omega (arith, c.loop-i-test.true, c.len-i-end.ensures) in
    let fits : SFits w128 c.in_ok-number.number = search rules in
    let pushed = ap (λ (d : Draft). d.numbers) c.in_ok-push_number.ensures ∙ ap (λ z. c.loop-i.builder.numbers ++ z ∷ []) (to_z-of_z w128 c.in_ok-number.number fits) in
    record {
      from = omega (arith, from);
      taken =
          taken (measure_in c.args.row) (attrs + 1) (drop attrs fields) (i - attrs) (i + 1) c.field.result.now
          (as_far attrs fields i from low) (omega (arith, from)) (behind attrs fields i _ [] from low c.field.ensures)
          c.loop-i.builder.numbers c.loop-i.invariant.taken c.in_ok-number.number _ (i + 1 - attrs) (sym c.in_ok-number.ensures) pushed (omega (arith, from));
      rest = numbers_more c.args.builder.now c.loop-i.builder c.push_number.new.self _ c.loop-i.invariant.rest c.in_ok-push_number.ensures;
    }

pub returns-clause-read : goal.returns-clause-read
returns-clause-read c =
    let fields = fields_of c.args.fields.now in
    finished (measure_in c.args.row) (c.args.attrs + 1) (drop c.args.attrs fields) (c.loop-i.i - c.args.attrs) c.loop-i.builder.numbers
    (past_all c.args.attrs fields c.loop-i.i (omega (arith, c.loop-i-test.false, c.len-i-end.ensures))) c.loop-i.invariant.taken
