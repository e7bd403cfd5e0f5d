use Rattle.std.proofs.Common.{ℕ, ◌+◌, List, [], get_or, arith, refl, sym}
use Rattle.std.proofs.lemmas.List.{get_or_default}
use Rattle.std.proofs.lemmas.Slice.Zip.{length-zip}
use Rattle.std.specs.List.{zip}
use Rattle.csv.specs.Records.{fields_of}
use Rattle.cube_schema.specs.Kinds.{kind_at}
use Rattle.fact_csv.proofs.Items.{both, zipped}
use Rattle.reply_fold.specs.Rows.{value_in}
use Rattle.reply_fold.proofs.Reading.{all-read, first-fault, handed, one-more, same-answer}
use Rattle.reply_fold.proofs.rows.read_values.Goals as goal

pub returns-in_err-value : goal.returns-in_err-value
returns-in_err-value c =
    let i = c.loop-i.i in
    let group = c.args.group.now in
    let fields = fields_of c.args.fields.now in
    let s = c.args.schema.now in
    handed c.from_residual-in_err-value.result c.in_err-value.field-0.0 _ c.from_residual-in_err-value.ensures.1
    (λ other. first-fault (λ (p : ℕ × List ℕ). value_in (kind_at s p.0) c.args.number p.1) (zip group fields) i (get_or group i 0, c.field.result.now)
    (both group fields i c.loop-i-test.true c.requires) (zipped group fields i _ _ [] c.loop-i-test.true (omega (arith, c.loop-i-test.true, c.requires)) (sym (get_or_default group i (get_or group i 0) 0 c.loop-i-test.true)) c.field.ensures)
    c.loop-i.values c.loop-i.invariant c.in_err-value.field-0.0 (same-answer c.args.number c.field.result.now c.kind_at.ensures (c.in_err-value.ensures other)))

pub loop-i-preserved : goal.loop-i-preserved
loop-i-preserved c =
    let i = c.loop-i.i in
    let group = c.args.group.now in
    let fields = fields_of c.args.fields.now in
    let s = c.args.schema.now in
    one-more (λ (p : ℕ × List ℕ). value_in (kind_at s p.0) c.args.number p.1) (zip group fields) i (get_or group i 0, c.field.result.now)
    (both group fields i c.loop-i-test.true c.requires) (zipped group fields i _ _ [] c.loop-i-test.true (omega (arith, c.loop-i-test.true, c.requires)) (sym (get_or_default group i (get_or group i 0) 0 c.loop-i-test.true)) c.field.ensures)
    c.loop-i.values c.loop-i.invariant c.in_ok-value.value _ (i + 1) (same-answer c.args.number c.field.result.now c.kind_at.ensures c.in_ok-value.ensures) c.in_ok-push.ensures.pushed refl

pub returns : goal.returns
returns c =
    let group = c.args.group.now in
    let fields = fields_of c.args.fields.now in
    all-read (λ (p : ℕ × List ℕ). value_in (kind_at c.args.schema.now p.0) c.args.number p.1) (zip group fields) c.loop-i.i c.loop-i.values
    (omega (arith, length-zip group fields, c.loop-i-test.false)) c.loop-i.invariant
