use Rattle.std.proofs.Common.{get_or, ◌≡◌, ◌<◌, ◌+◌, [], ◌∷◌, ◌++◌, map, take, length, sym, ◌∙◌, ap, arith}
use Rattle.std.proofs.lemmas.List.{map-append, take_more}
use Rattle.spec_points.specs.Answer.{row_from}
use Rattle.point_groups.specs.Bare.{nowhere}
use Rattle.slice_rows.specs.Grouped.{keyed}
use Rattle.slice_rows.proofs.made_row.rows_made.Goals as goal

pub loop-place-preserved : goal.loop-place-preserved
loop-place-preserved c =
    let columns = c.args.slice.now.columns in
    let es = c.args.points.now in
    let i = c.loop-place.place in
    let key = keyed c.args.names.now c.args.view.now c.args.slice.now.group in
    let e = get_or c.at-number.result.0.now c.at-number.result.1 nowhere in
    let low : i < length es = omega (arith, c.loop-place-test.true, c.len-place-end.ensures) in
    let next : take (i + 1) es ≡ take i es ++ e ∷ [] = take_more es i e low ∙ ap (λ x. take i es ++ x ∷ []) (sym (c.at-number.ensures e)) in
    c.in_ok-push.ensures.pushed
    ∙ ((λ j. c.loop-place.invariant j ++ c.in_ok-row_made.ensures j ∷ [])
    ∙ sym (ap (λ l. map (row_from columns) (map key l)) next
    ∙ (ap (map (row_from columns)) (map-append key (take i es) (e ∷ []))
    ∙ map-append (row_from columns) (map key (take i es)) (key e ∷ []))))
