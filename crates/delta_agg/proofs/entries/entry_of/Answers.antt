use Rattle.std.proofs.Common.{◌<◌, ◌≤◌, ℕ, List, length, sym, ◌∙◌, ap, subst, arith}
use Rattle.std.specs.List.{All}
use Rattle.spec_points.specs.Light.{KeepMasses}
use Rattle.fact_model.specs.Cell.{cell_of}
use Rattle.delta_agg.specs.Orders.{facts_at, run_at}
use Rattle.delta_agg.proofs.RunCuts.{run-few, run-mass, run-rises, run-rows, run-some, run-within}
use Rattle.delta_agg.proofs.entries.entry_of.Goals as goal

pub run-requires-clause-rises : goal.run-requires-clause-rises
run-requires-clause-rises c =
    let v = c.args.view.now in
    omega (arith, run-rises v.view c.args.coded.now v.runs.order v.runs.cuts c.requires.runs.ordered c.args.at c.requires.at)

pub run-requires-clause-within : goal.run-requires-clause-within
run-requires-clause-within c =
    let v = c.args.view.now in
    run-within v.view c.args.coded.now v.runs.order v.runs.cuts c.requires.runs.ordered c.args.at c.requires.at

pub cell_of-requires-clause-some : goal.cell_of-requires-clause-some
cell_of-requires-clause-some c =
    let v = c.args.view.now in
    subst (λ (rows : List ℕ). 1 ≤ length rows) (sym c.run.ensures) (run-some v.view c.args.coded.now v.runs.order v.runs.cuts c.requires.runs.ordered c.args.at c.requires.at)

pub cell_of-requires-clause-few : goal.cell_of-requires-clause-few
cell_of-requires-clause-few c =
    let v = c.args.view.now in
    subst (λ (rows : List ℕ). length rows ≤ 262144) (sym c.run.ensures)
    (omega (arith, run-few v.view c.args.coded.now v.runs.order v.runs.cuts c.requires.runs.ordered c.args.at c.requires.at, c.requires.batch.lists, c.requires.batch.few))

pub cell_of-requires-clause-rows : goal.cell_of-requires-clause-rows
cell_of-requires-clause-rows c =
    let v = c.args.view.now in
    subst (λ (rows : List ℕ). All (λ row. row < length c.args.numbers.now) rows) (sym c.run.ensures)
    (subst (λ n. All (λ row. row < n) (run_at v.runs.order v.runs.cuts c.args.at)) c.requires.batch.lists (run-rows v.view c.args.coded.now v.runs.order v.runs.cuts c.requires.runs.ordered c.args.at c.requires.at))

pub cell_of-requires-clause-masses : goal.cell_of-requires-clause-masses
cell_of-requires-clause-masses c =
    let v = c.args.view.now in
    subst (λ (rows : List ℕ). KeepMasses (facts_at c.args.numbers.now rows)) (sym c.run.ensures)
    (λ m low. omega (arith, run-mass v.view c.args.coded.now v.runs.order v.runs.cuts c.requires.runs.ordered c.args.at c.requires.at c.args.numbers.now c.requires.batch.lists m, c.requires.batch.masses m low))

pub returns : goal.returns
returns c =
    let cell = c.cell_of.ensures ∙ ap (λ (rows : List ℕ). cell_of c.args.measures (facts_at c.args.numbers.now rows)) c.run.ensures in
    λ i. record { point = c.point_of.ensures c.args.measures c.args.numbers.now i; cell = cell i }
