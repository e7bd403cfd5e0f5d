use Rattle.std.proofs.Common.{length, sym, ap, ◌∙◌}
use Rattle.std.proofs.lemmas.List.FromFn.{length-map-range_with_len}
use Rattle.fact_batch.specs.Rows.{row_at}
use Rattle.fact_batch.proofs.rows.FlatRows.len.Goals as goal

pub returns : goal.returns
returns g c =
    let flat = c.self.inside in
    sym (length-map-range_with_len (row_at flat.width flat.items.items) 0 flat.rows) ∙ ap length c.self.view_is
