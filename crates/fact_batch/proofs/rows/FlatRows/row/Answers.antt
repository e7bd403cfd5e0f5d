use Rattle.std.proofs.Common.{◌<◌, [], length, get_or, sym, ap, ◌∙◌, arith, subst}
use Rattle.std.proofs.lemmas.List.FromFn.{get_or-map-range_with_len, length-map-range_with_len}
use Rattle.fact_batch.specs.Rows.{row_at}
use Rattle.fact_batch.proofs.rows.FlatRows.row.Goals as goal

pub row_of-requires-clause-at : goal.row_of-requires-clause-at
row_of-requires-clause-at g c =
    let flat = c.self.inside in
    let long = length-map-range_with_len (row_at flat.width flat.items.items) 0 flat.rows in
    let lt = subst (λ rows. c.args.at < length rows) (sym c.self.view_is) c.requires in
    subst (λ k. c.args.at < k) long lt

pub returns : goal.returns
returns g c =
    let flat = c.self.inside in
    let long = length-map-range_with_len (row_at flat.width flat.items.items) 0 flat.rows in
    let lt = subst (λ rows. c.args.at < length rows) (sym c.self.view_is) c.requires in
    c.row_of.ensures
    ∙ (ap (λ items. row_at flat.width items c.args.at) c.deref.ensures.value
    ∙ (sym (get_or-map-range_with_len (row_at flat.width flat.items.items) 0 flat.rows c.args.at c.args.at [] (subst (λ k. c.args.at < k) long lt) (omega arith))
    ∙ ap (λ rows. get_or rows c.args.at []) c.self.view_is))
