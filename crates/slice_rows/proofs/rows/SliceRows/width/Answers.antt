use Rattle.std.proofs.Common.{◌≡◌, ◌∙◌, ap, length, subst, sym}
use Rattle.std.specs.List.{All}
use Rattle.fact_model.specs.declared.slice.Row.{Row}
use Rattle.slice_rows.specs.Grouped.{keyed}
use Rattle.slice_rows.proofs.LentRows.{rows-wide}
use Rattle.slice_rows.proofs.rows.SliceRows.width.Goals as goal

pub returns : goal.returns
returns c =
    let its = c.self.inside in
    subst (All (λ (row : Row). length row.numbers ≡ length c.as_slice.result.now)) c.self.view_is
    (λ k d l. rows-wide its.slice.now.columns (keyed its.names.now its.view.now its.slice.now.group) its.points k d l ∙ ap length (sym c.as_slice.ensures))
