use Rattle.std.proofs.Common.{rules, ◌≡◌, ◌∙◌, ap, get_or, map, pos, of_z, to_z}
use Rattle.std.specs.Int.{w128}
use Rattle.fact_model.specs.Adds.{number_in}
use Rattle.spec_points.specs.Answer.{column_of}
use Rattle.point_groups.specs.Bare.{nowhere}
use Rattle.slice_rows.specs.Grouped.{keyed}
use Rattle.slice_rows.proofs.LentRows.{row-there}
use Rattle.slice_rows.proofs.rows.SliceRows.number.Goals as goal

pub returns : goal.returns
returns c = λ d.
    let its = c.self.inside in
    let e = get_or c.at-number.result.0.now c.at-number.result.1 nowhere in
    let as_is : to_z w128 (of_z w128 c.number_at.result) ≡ c.number_at.result = search rules in
    as_is
    ∙ (c.number_at.ensures
    ∙ (ap (λ columns. get_or (map (column_of e.cell) columns) c.args.column (pos 0)) c.as_slice.ensures
    ∙ ap (number_in c.args.column) (row-there its.slice.now.columns (keyed its.names.now its.view.now its.slice.now.group) c.args.self.now its.points c.args.place e c.self.view_is c.requires (c.at-number.ensures e) d)))
