use Rattle.std.proofs.Common.{◌++◌, ◌∷◌, [], sym, ◌∙◌, ap, arith}
use Rattle.std.proofs.lemmas.List.FromFn.{map-range_with_len_more}
use Rattle.delta_agg.specs.Batch.{point_at}
use Rattle.delta_agg.specs.Placed.{placed_at}
use Rattle.delta_agg.proofs.placed.placed_of.Goals as goal

pub loop-row-preserved : goal.loop-row-preserved
loop-row-preserved c =
    let row = c.loop-row.row in
    let point = c.point.ensures ∙ ap (point_at c.args.view.now) c.row.ensures in
    c.in_ok-push.ensures.items
    ∙ ((λ j. c.loop-row.invariant j ++ (record { point = point j; row = row }) ∷ []) ∙ sym (map-range_with_len_more (placed_at c.args.view.now c.args.coded.now) 0 row row (omega arith)))
