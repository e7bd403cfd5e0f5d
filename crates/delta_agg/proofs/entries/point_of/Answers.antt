use Rattle.std.proofs.Common.{◌<◌, ℕ, List, [], get_or, length, sym, ◌∙◌, ap, subst}
use Rattle.std.specs.Prelude.{slice_index}
use Rattle.spec_points.specs.Arity.{arity_of}
use Rattle.delta_agg.specs.Batch.{HasPlace, point_at}
use Rattle.delta_agg.specs.Rows.{row_place}
use Rattle.delta_agg.proofs.Places.{place-told}
use Rattle.delta_agg.proofs.RunCuts.{first-row, first-within, run-first}
use Rattle.delta_agg.proofs.entries.point_of.Goals as goal

pub first-row-requires-clause-within : goal.first-row-requires-clause-within
first-row-requires-clause-within c =
    let v = c.args.view.now in
    first-within v.view c.args.coded.now v.runs.order v.runs.cuts c.requires.runs.ordered c.args.at c.requires.at

pub row-requires : goal.row-requires
row-requires c =
    let v = c.args.view.now in
    subst (λ row. row < length c.args.coded.now) (sym c.first-row.ensures) (first-row v.view c.args.coded.now v.runs.order v.runs.cuts c.requires.runs.ordered c.args.at c.requires.at)

pub point-requires-clause-place : goal.point-requires-clause-place
point-requires-clause-place c =
    let v = c.args.view.now in
    subst (λ (coordinates : List ℕ). HasPlace c.as_slice.result.now coordinates) (sym (c.row.ensures ∙ ap (λ row. get_or c.args.coded.now row []) c.first-row.ensures))
    (subst (λ (view : List ℕ). HasPlace view (get_or c.args.coded.now (slice_index v.runs.order (slice_index v.runs.cuts c.args.at)) [])) (sym c.as_slice.ensures)
    (c.requires.runs.places (slice_index v.runs.order (slice_index v.runs.cuts c.args.at)) [] (first-row v.view c.args.coded.now v.runs.order v.runs.cuts c.requires.runs.ordered c.args.at c.requires.at)))

pub returns : goal.returns
returns c = λ measures numbers.
    let v = c.args.view.now in
    let coded = c.args.coded.now in
    let row : ℕ = slice_index v.runs.order (slice_index v.runs.cuts c.args.at) in
    let low = first-row v.view coded v.runs.order v.runs.cuts c.requires.runs.ordered c.args.at c.requires.at in
    let told = sym (place-told v.view (get_or coded row []) (c.requires.runs.places row [] low)) in
    let first = sym (run-first v.view coded v.runs.order v.runs.cuts c.requires.runs.ordered c.args.at c.requires.at) in
    c.point.ensures
    ∙ ((λ j. point_at (c.as_slice.ensures j) (c.row.ensures j))
    ∙ (ap (λ row. point_at v.view (get_or coded row [])) c.first-row.ensures
    ∙ ((λ j. record { arity = told j; at = row_place v.view coded row })
    ∙ ap (λ row. record { arity = arity_of (row_place v.view coded row); at = row_place v.view coded row }) first)))
