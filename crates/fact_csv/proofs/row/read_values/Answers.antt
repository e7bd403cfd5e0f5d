use Rattle.std.proofs.Common.{ℕ, ◌+◌, List, [], arith, refl, ap}
use Rattle.std.proofs.lemmas.Slice.Zip.{length-zip}
use Rattle.csv.specs.Records.{fields_of}
use Rattle.std.specs.List.{zip}
use Rattle.cube_schema.specs.declared.schema.Attr.{Attr}
use Rattle.fact_batch.specs.Batch.{Draft}
use Rattle.fact_csv.specs.Batch.{value_in}
use Rattle.fact_csv.proofs.Answers.{refused, taken, finished}
use Rattle.fact_csv.proofs.Drafts.{values_more}
use Rattle.fact_csv.proofs.Items.{zipped, both}
use Rattle.fact_csv.proofs.row.read_values.Goals as goal

pub returns-in_err-read_value-clause-refused : goal.returns-in_err-read_value-clause-refused
returns-in_err-read_value-clause-refused c =
    let i = c.loop-i.i in
    let attrs = c.args.attrs.now in
    let fields = fields_of c.args.fields.now in
    refused (λ number (p : Attr × List ℕ). value_in p.0.kind c.args.row number p.1) 1 (zip attrs fields) i (i + 1) (c.index-attrs-i.result, c.field.result.now)
    (both attrs fields i c.loop-i-test.true c.requires.short) (omega arith)
    (zipped attrs fields i _ _ [] c.loop-i-test.true (omega (arith, c.loop-i-test.true, c.requires.short)) c.index-attrs-i.is c.field.ensures)
    c.loop-i.builder.values c.loop-i.invariant.taken _ c.in_err-read_value.field-0.0 c.from_residual.ensures.1 c.in_err-read_value.ensures.refused

pub loop-i-preserved : goal.loop-i-preserved
loop-i-preserved c =
    let i = c.loop-i.i in
    let attrs = c.args.attrs.now in
    let fields = fields_of c.args.fields.now in
    let has = c.in_ok-read_value.ensures.read in
    record {
      taken =
          taken (λ number (p : Attr × List ℕ). value_in p.0.kind c.args.row number p.1) 1 (zip attrs fields) i (i + 1) (c.index-attrs-i.result, c.field.result.now)
          (both attrs fields i c.loop-i-test.true c.requires.short) (omega arith)
          (zipped attrs fields i _ _ [] c.loop-i-test.true (omega (arith, c.loop-i-test.true, c.requires.short)) c.index-attrs-i.is c.field.ensures)
          c.loop-i.builder.values c.loop-i.invariant.taken has.value _ _ has.good (ap (λ (d : Draft). d.values) has.pushed) refl;
      rest = values_more c.args.builder.now c.loop-i.builder c.read_value.new.builder _ c.loop-i.invariant.rest has.pushed;
    }

pub returns-clause-read : goal.returns-clause-read
returns-clause-read c =
    let fields = fields_of c.args.fields.now in
    finished (λ number (p : Attr × List ℕ). value_in p.0.kind c.args.row number p.1) 1 (zip c.args.attrs.now fields) c.loop-i.i c.loop-i.builder.values
    (omega (arith, length-zip c.args.attrs.now fields, c.loop-i-test.false)) c.loop-i.invariant.taken
