use Rattle.std.proofs.Common.{get_or, ◌∙◌}
use Rattle.std.proofs.lemmas.Result.{on_ok_weaker}
use Rattle.point_groups.specs.Bare.{nowhere}
use Rattle.slice_rows.specs.Grouped.{keyed}
use Rattle.slice_rows.proofs.LentRows.{row-there}
use Rattle.slice_rows.proofs.rows.SliceRowsLentRows.lend.Goals as goal

pub returns : goal.returns
returns c = λ d.
    let its = c.self.inside in
    let e = get_or c.at-number.result.0.now c.at-number.result.1 nowhere in
    on_ok_weaker c.lend_row.result
    (λ is. is ∙ row-there its.slice.now.columns (keyed its.names.now its.view.now its.slice.now.group) c.args.self.now its.points c.args.place e c.self.view_is c.requires (c.at-number.ensures e) d)
    c.lend_row.ensures
