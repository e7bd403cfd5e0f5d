use Rattle.std.proofs.Common.{◌<◌, List, get_or, length, sym, ◌∙◌, ap, subst}
use Rattle.std.proofs.lemmas.List.{get_or_default}
use Rattle.cube_point.specs.declared.point.Entry.{Entry}
use Rattle.delta_agg.specs.declared.runs.ViewRuns.{ViewRuns}
use Rattle.delta_agg.specs.Orders.{entry_at, no_view}
use Rattle.delta_agg.proofs.TreeRuns.{tree-long}
use Rattle.delta_agg.proofs.points.Points.point.Goals as goal

pub place_of-place-requires-clause-at : goal.place_of-place-requires-clause-at
place_of-place-requires-clause-at c =
    let p = c.self.inside in
    subst (λ n. c.args.at < n) (sym (ap (λ (es : List Entry). length es) c.self.view_is) ∙ tree-long p.measures p.coded.now p.numbers.now p.views.now) c.requires

pub returns : goal.returns
returns c = λ d.
    let p = c.self.inside in
    let place = c.place_of-place.result in
    let view = get_or_default p.views.now place.view c.index-self-place.result no_view c.place_of-place.ensures.view in
    c.point_of.ensures p.measures p.numbers.now
    ∙ (ap (λ (v : ViewRuns). (entry_at p.measures p.coded.now p.numbers.now v place.at).point) view
    ∙ ap (λ (e : Entry). e.point) (sym (c.place_of-place.ensures.is p.measures p.coded.now p.numbers.now d)
    ∙ ap (λ (es : List Entry). get_or es c.args.at d) c.self.view_is))
