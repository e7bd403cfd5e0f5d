use Rattle.std.proofs.Common.{arith}
use Rattle.delta_agg.proofs.RowCells.{parts-alone}
use Rattle.delta_agg.proofs.cells.cell_alone.Goals as goal

pub returns : goal.returns
returns c =
    let so_far = c.loop-m.invariant in
    let parts = parts-alone c.args.numbers.now c.loop-m.parts so_far.long
    (λ k low. so_far.each k (omega (arith, low, c.loop-m-test.false)))
    (λ k past low. so_far.none k (omega (arith, past, c.loop-m.auto.m-end)) low) in
    λ i. record { count = 1; measures = c.args.measures; parts = parts i }
