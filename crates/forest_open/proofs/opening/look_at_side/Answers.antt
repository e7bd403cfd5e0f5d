use Rattle.std.proofs.Common.{◌≡◌, ◌+◌, ◌%◌, ◌∙◌, length, ap, arith}
use Rattle.select_map.specs.declared.mapping.Mapping.{Mapping}
use Rattle.forest_root.specs.Forest.{pages_of_all}
use Rattle.forest_open.proofs.Openings.{side_short, side_whole}
use Rattle.forest_open.proofs.opening.look_at_side.Goals as goal

pub returns-then-end-all_pages-clause-judged : goal.returns-then-end-all_pages-clause-judged
returns-then-end-all_pages-clause-judged g c = λ t.
    let forest = c.args.forest.now in
    let files = (g.T.Site.disk c.args.site.now).files in
    let side : 2 + c.slot-side.result ≡ 2 + forest.body.generation % 2 = ap (λ n. 2 + n) c.slot-side.ensures in
    let pages = c.all_pages.ensures ∙ ap (λ (m : Mapping). pages_of_all forest.body.format forest.schema forest.body.counts m.trees) forest.mapped in
    side_short forest.body files forest.schema _ _ (c.in_ok-end.ensures.answer t ∙ ap (λ s. length (files s)) side) pages _ _ side (omega (arith, c.if-end-all_pages.true)) c.damaged.ensures

pub returns-clause-judged : goal.returns-clause-judged
returns-clause-judged g c = λ t.
    let forest = c.args.forest.now in
    let files = (g.T.Site.disk c.args.site.now).files in
    let side : 2 + c.slot-side.result ≡ 2 + forest.body.generation % 2 = ap (λ n. 2 + n) c.slot-side.ensures in
    let pages = c.all_pages.ensures ∙ ap (λ (m : Mapping). pages_of_all forest.body.format forest.schema forest.body.counts m.trees) forest.mapped in
    side_whole forest.body files forest.schema _ _ (c.in_ok-end.ensures.answer t ∙ ap (λ s. length (files s)) side) pages (omega (arith, c.if-end-all_pages.false))
