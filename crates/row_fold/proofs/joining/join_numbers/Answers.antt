use Rattle.std.proofs.Common.{rules, ◌≡◌, ℤ, pos, get_or, to_z, of_z, refl}
use Rattle.std.specs.Int.{w128}
use Rattle.fact_model.specs.declared.slice.Column.TheVariants.{Count}
use Rattle.row_fold.specs.Joins.{join_number}
use Rattle.row_fold.proofs.JoinSteps.{column-more}
use Rattle.row_fold.proofs.joining.join_numbers.Goals as goal

pub loop-i-preserved : goal.loop-i-preserved
loop-i-preserved c =
    let i = c.loop-i.i in
    let k = get_or c.args.columns.now i Count in
    let n : ℤ = get_or c.args.numbers.now i (pos 0) in
    let o : ℤ = get_or c.loop-i.sums i (pos 0) in
    let x : to_z w128 (of_z w128 c.join_number.result) ≡ join_number k n o = search rules in
    column-more c.args.columns.now c.args.numbers.now c.args.sums.now c.requires c.loop-i.sums _ i k n o (to_z w128 (of_z w128 c.join_number.result)) c.loop-i-test.true c.loop-i.invariant refl refl refl x refl
