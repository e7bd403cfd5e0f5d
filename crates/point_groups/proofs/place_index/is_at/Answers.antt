use Rattle.std.proofs.Common.{arith, ◌<◌, ◌∙◌, sym, ap, length}
use Rattle.std.proofs.lemmas.List.{get_or_default}
use Rattle.cube_point.specs.declared.point.Entry.{Entry}
use Rattle.cube_point.specs.declared.point.Point.{Point}
use Rattle.point_groups.specs.Bare.{nowhere}
use Rattle.point_groups.specs.Kept.{same_place}
use Rattle.point_groups.proofs.IndexedPlaces.{as-same}
use Rattle.point_groups.proofs.place_index.is_at.Goals as goal

pub returns-then-number-len : goal.returns-then-number-len
returns-then-number-len c = λ d.
    let gs = c.args.groups.now in
    let place = c.args.place.now in
    let low : c.args.number < length gs = omega (arith, c.if-number-len.true, c.len.ensures) in
    let same =
    ap (λ (e : Entry). same_place e.point.at place) (get_or_default gs c.args.number d nowhere low)
    ∙ (ap (λ (p : Point). same_place p.at place) (sym c.point.ensures) ∙ sym (as-same place c.point.result.at)) in (
      λ is. (low, same ∙ (sym c.eq.ensures ∙ is)),
      λ both. c.eq.ensures ∙ (sym same ∙ both.1),
    )
