use Rattle.std.proofs.Common.{◌≡◌, ◌+◌, ◌++◌, ◌∷◌, [], map, sym, ◌∙◌, ap, arith}
use Rattle.std.proofs.lemmas.List.{map-append}
use Rattle.std.specs.List.{range_with_len}
use Rattle.slice_rows.specs.Ranks.{rank_by}
use Rattle.slice_rows.proofs.PickedPoints.{range-more}
use Rattle.slice_rows.proofs.value_ranks.Ranks.first_ranks.Goals as goal

pub loop-code-preserved : goal.loop-code-preserved
loop-code-preserved c =
    let rank = rank_by c.args.names.now c.args.self.now in
    let code = c.loop-code.code in
    let from : 0 + code ≡ code = omega arith in
    c.in_ok-push.ensures.items
    ∙ ((λ i. c.loop-code.invariant i ++ c.rank_of_value.ensures i ∷ [])
    ∙ (sym (map-append rank (range_with_len 0 code) (code ∷ [])) ∙ ap (map rank) (sym (range-more 0 code code from))))
