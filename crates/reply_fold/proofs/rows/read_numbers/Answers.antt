use Rattle.std.proofs.Common.{◌+◌, ◌-◌, ◌<◌, ◌++◌, ◌∷◌, ◌∙◌, [], length, drop, ap, arith, rules, sym, SFits}
use Rattle.std.specs.Int.{w128}
use Rattle.std.proofs.lemmas.Int.{to_z-of_z}
use Rattle.csv.specs.Records.{fields_of}
use Rattle.fact_csv.proofs.Items.{as_far, behind}
use Rattle.reply_fold.specs.Rows.{number_at}
use Rattle.reply_fold.proofs.Reading.{first-fault, handed, one-more}
use Rattle.reply_fold.proofs.rows.read_numbers.Goals as goal

pub returns-in_err-value : goal.returns-in_err-value
returns-in_err-value c =
    let i = c.loop-i.i in
    let values = c.args.values in
    let fields = fields_of c.args.fields.now in
    let from = c.loop-i.invariant.from in
    let low : i < length fields = omega (arith, c.loop-i-test.true, c.len-i-end.ensures) in
    handed c.from_residual-in_err-value.result c.in_err-value.field-0.0 _ c.from_residual-in_err-value.ensures.1
    (λ other. first-fault (number_at c.args.number) (drop values fields) (i - values) c.field.result.now (as_far values fields i from low) (behind values fields i _ [] from low c.field.ensures)
    c.loop-i.numbers c.loop-i.invariant.taken c.in_err-value.field-0.0 (sym c.in_err-value.ensures))

pub loop-i-preserved : goal.loop-i-preserved
loop-i-preserved c =
    let i = c.loop-i.i in
    let values = c.args.values in
    let fields = fields_of c.args.fields.now in
    let from = c.loop-i.invariant.from in
    let low : i < length fields = omega (arith, c.loop-i-test.true, c.len-i-end.ensures) in
    let fits : SFits w128 c.in_ok-value.value = search rules in
    let pushed = c.in_ok-push.ensures.pushed ∙ ap (λ z. c.loop-i.numbers ++ z ∷ []) (to_z-of_z w128 c.in_ok-value.value fits) in
    record {
      from = omega (arith, from);
      taken =
          one-more (number_at c.args.number) (drop values fields) (i - values) c.field.result.now (as_far values fields i from low) (behind values fields i _ [] from low c.field.ensures)
          c.loop-i.numbers c.loop-i.invariant.taken c.in_ok-value.value _ (i + 1 - values) (sym c.in_ok-value.ensures) pushed (omega (arith, from));
    }
