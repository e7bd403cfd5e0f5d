use Rattle.std.proofs.Common.{◌∙◌, ap, get_or, map, refl}
use Rattle.std.proofs.lemmas.List.{get_or_default}
use Rattle.std.proofs.lemmas.List.Elements.{All-same, All-set}
use Rattle.std.proofs.lemmas.Result.{MatchResult-weaker}
use Rattle.cube_point.specs.declared.point.Entry.{Entry}
use Rattle.page_entry.specs.Cells.{EndsInZeros}
use Rattle.spec_points.specs.Entries.{both, pair_of}
use Rattle.point_groups.specs.Bare.{nowhere}
use Rattle.point_groups.specs.Kept.{at_point}
use Rattle.point_groups.proofs.GatheredPlaces.{ends-there, from-both, here-from, joined-there, joins-there, there-joins}
use Rattle.point_groups.proofs.place_order.join_at.Goals as goal

pub returns-clause-took : goal.returns-clause-took
returns-clause-took c = λ p place apart zeros.
    let gs = c.args.groups.now in
    let at = c.args.at in
    let e = at_point p c.args.entry.now in
    let x = get_or gs at nowhere in
    let is = get_or_default gs at nowhere x c.requires in
    let here = here-from gs e x at c.requires is place in
    from-both c.join.result (c.join.ensures.joined (ends-there gs x at c.requires is zeros)) c.join.ensures.joins
    (λ to joins. record {
      items = ap (map pair_of) to ∙ joined-there gs e x at c.requires is here (both x c.args.entry.now) apart refl;
      joins = joins-there gs e x at c.requires is here apart joins;
    })

pub returns-clause-apart : goal.returns-clause-apart
returns-clause-apart c = λ p place.
    let gs = c.args.groups.now in
    let at = c.args.at in
    let e = at_point p c.args.entry.now in
    let x = get_or gs at nowhere in
    let is = get_or_default gs at nowhere x c.requires in
    let here = here-from gs e x at c.requires is place in
    MatchResult-weaker c.join.result c.join.ensures.apart
    (λ u unit. unit)
    (λ stop apart to joins. apart to (there-joins gs e x at c.requires is here joins))

pub returns-clause-zeros : goal.returns-clause-zeros
returns-clause-zeros c = λ zeros.
    let gs = c.args.groups.now in
    let at = c.args.at in
    let x = get_or gs at nowhere in
    let ends = ends-there gs x at c.requires (get_or_default gs at nowhere x c.requires) zeros in
    from-both c.join.result (c.join.ensures.joined ends) (c.join.ensures.ends ends)
    (λ to end. All-same (λ (e : Entry). EndsInZeros e.cell) _ _ to (All-set (λ (e : Entry). EndsInZeros e.cell) gs at (both x c.args.entry.now) end zeros))
