use Rattle.std.proofs.Common.{◌++◌, ◌∷◌, [], ◌+◌, ◌*◌, ◌^◌, map, sym, ◌∙◌, ap, arith}
use Rattle.std.proofs.lemmas.List.{map-append}
use Rattle.std.proofs.lemmas.List.FromFn.{map-range_with_len_more}
use Rattle.delta_agg.specs.Rows.{number_from, row_key}
use Rattle.delta_agg.proofs.number.make_keys.Goals as goal

pub loop-row-preserved : goal.loop-row-preserved
loop-row-preserved g c =
    let row = c.loop-row.row in
    let number = g.K.Number.number in
    let is = c.key.ensures ∙ ap (λ coordinates. number_from 0 c.args.digits.now coordinates * 2 ^ 18 + row) c.row.ensures in
    ap (map number) c.in_ok-push.ensures.items
    ∙ (map-append number c.loop-row.keys.items (c.key.result ∷ [])
    ∙ ((λ j. c.loop-row.invariant j ++ is j ∷ []) ∙ sym (map-range_with_len_more (row_key c.args.digits.now c.args.coded.now) 0 row row (omega arith))))
