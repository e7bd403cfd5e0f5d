use Rattle.std.proofs.Common.{rules, ◌≡◌, ◌<◌, ◌+◌, ◌∙◌, ap, arith, get_or, length, nat_abs, of_z, refl, to_z}
use Rattle.std.specs.Int.{w128}
use Rattle.fact_model.proofs.Sums.{too_many}
use Rattle.slice_rows.proofs.LentRows.{next-sum, no_row}
use Rattle.slice_rows.proofs.column_sums.column_adds.Goals as goal

pub returns-then-sum-gt-MASS_LIMIT : goal.returns-then-sum-gt-MASS_LIMIT
returns-then-sum-gt-MASS_LIMIT c =
    let rows = c.args.rows.now in
    let i = c.loop-place.place in
    let low : i < length rows = omega (arith, c.loop-place-test.true, c.len-place-end.ensures) in
    let as_is : to_z w128 (of_z w128 c.number.result) ≡ c.number.result = search rules in
    too_many c.args.column i c.loop-place.sum c.unsigned_abs-sum.result rows (get_or rows i no_row) no_row low refl
    c.loop-place.invariant.sum (c.unsigned_abs-sum.ensures.value ∙ ap nat_abs (as_is ∙ c.number.ensures no_row)) c.if-sum-gt-MASS_LIMIT.true

pub loop-place-preserved : goal.loop-place-preserved
loop-place-preserved c =
    let rows = c.args.rows.now in
    let i = c.loop-place.place in
    let low : i < length rows = omega (arith, c.loop-place-test.true, c.len-place-end.ensures) in
    let as_is : to_z w128 (of_z w128 c.number.result) ≡ c.number.result = search rules in
    record {
      sum = (λ j. c.loop-place.invariant.sum j + (c.unsigned_abs-sum.ensures.value ∙ ap nat_abs (as_is ∙ c.number.ensures no_row)) j) ∙ next-sum c.args.column i rows no_row low;
      low = omega (arith, c.if-sum-gt-MASS_LIMIT.false);
    }
