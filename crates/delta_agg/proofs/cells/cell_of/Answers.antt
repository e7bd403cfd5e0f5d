use Rattle.std.proofs.Common.{◌+ℤ◌, ◌<◌, ℤ, List, [], ◌∷◌, get_or, length, sym, ◌∙◌, ap, subst, arith}
use Rattle.std.specs.Prelude.{FitsSigned, pos}
use Rattle.std.specs.Int.{w128}
use Rattle.fact_model.specs.declared.cell.Cell.{Cell}
use Rattle.fact_model.specs.Cell.{cell_of, join}
use Rattle.delta_agg.specs.Orders.{bare, no_part}
use Rattle.delta_agg.proofs.RowCells.{front, row-fits, row-joined, row-none}
use Rattle.delta_agg.proofs.cells.cell_of.Goals as goal

pub add-requires-clause-parts : goal.add-requires-clause-parts
add-requires-clause-parts c m inside =
    let numbers = c.args.numbers.now in
    let rows = c.args.rows.now in
    let i = c.loop-i.i in
    let n = c.args.measures in
    let long = c.requires.each (get_or rows i 0) [] (c.requires.rows i 0 c.loop-i-test.true) in
    let low : m < 4 = omega (arith, inside, c.requires.four, long, ap (λ (zs : List ℤ). length zs) c.row-in-loop-i.ensures) in
    subst (λ (cell : Cell). FitsSigned w128 ((get_or cell.parts m no_part).sum +ℤ get_or c.row-in-loop-i.result.now m (pos 0))) (sym c.loop-i.invariant)
    (subst (λ (zs : List ℤ). FitsSigned w128 ((get_or (cell_of n (front n numbers rows i)).parts m no_part).sum +ℤ get_or zs m (pos 0))) (sym c.row-in-loop-i.ensures)
    (row-fits n numbers rows i c.loop-i-test.true m c.requires.masses low))

pub add-requires-clause-none : goal.add-requires-clause-none
add-requires-clause-none c m past low =
    let numbers = c.args.numbers.now in
    let rows = c.args.rows.now in
    let i = c.loop-i.i in
    let n = c.args.measures in
    let long = c.requires.each (get_or rows i 0) [] (c.requires.rows i 0 c.loop-i-test.true) in
    ap (λ (cell : Cell). get_or cell.parts m no_part) c.loop-i.invariant
    ∙ row-none n numbers rows c.requires.each i m (omega (arith, past, long, ap (λ (zs : List ℤ). length zs) c.row-in-loop-i.ensures)) low

pub loop-i-preserved : goal.loop-i-preserved
loop-i-preserved c =
    let n = c.args.measures in
    c.add.ensures
    ∙ ((λ j. join (c.loop-i.invariant j) (cell_of (ap (λ (cell : Cell). cell.measures) c.loop-i.invariant j) (bare (c.row-in-loop-i.ensures j) ∷ [])))
    ∙ sym (row-joined n c.args.numbers.now c.args.rows.now c.loop-i.i c.loop-i-test.true c.loop-i.auto.i))
