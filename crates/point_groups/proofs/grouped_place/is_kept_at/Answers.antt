use Rattle.std.proofs.Common.{rules, arith, ◌≡◌, true, false, length, get_or, refl, sym, ◌∙◌, true≢false}
use Rattle.point_groups.proofs.KeptPlaces.{alike-kept, kept-alike}
use Rattle.point_groups.proofs.grouped_place.is_kept_at.Goals as goal

pub returns-then-coordinate-place : goal.returns-then-coordinate-place
returns-then-coordinate-place c =
    let kept : get_or c.args.dims.now c.loop-i.i false ≡ true = search rules in (
      λ no. absurd (true≢false (sym no)),
      λ same. absurd (c.if-coordinate-place.true (c.coordinate.ensures ∙ alike-kept c.args.dims.now c.args.entry.now.point.at c.args.place.now c.loop-i.i same kept)),
    )

pub returns : goal.returns
returns c =
    let eight = c.eight_coordinates.ensures in
    let place : length c.args.place.now ≡ 8 = search rules in
    let dims : length c.args.dims.now ≡ 8 = search rules in (
      λ yes. kept-alike c.args.dims.now c.args.entry.now.point.at c.args.place.now (eight ∙ sym place) (omega (arith, place, dims))
          (λ k low. c.loop-i.invariant k (omega (arith, low, place, c.loop-i-test.false))),
      λ same. refl,
    )
