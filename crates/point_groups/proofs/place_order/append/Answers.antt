use Rattle.std.proofs.Common.{◌≡◌, ◌++◌, map, ap, ◌∙◌, ◌∷◌, []}
use Rattle.std.proofs.lemmas.List.{map-append}
use Rattle.std.proofs.lemmas.List.Elements.{All-push, All-same}
use Rattle.fact_model.specs.declared.cell.Cell.{Cell}
use Rattle.cube_point.specs.declared.point.Entry.{Entry}
use Rattle.page_entry.specs.Cells.{EndsInZeros}
use Rattle.spec_points.specs.Entries.{pair_of}
use Rattle.point_groups.specs.Bare.{bare}
use Rattle.point_groups.specs.Kept.{at_point, place_of}
use Rattle.point_groups.proofs.GatheredPlaces.{appended, appended-joins}
use Rattle.point_groups.proofs.place_order.append.Goals as goal

pub returns-clause-took : goal.returns-clause-took
returns-clause-took c = λ none.
    let gs = c.args.groups.now in
    let e = bare (at_point c.args.point.now c.args.entry.now) in
    let is : c.push.new.self ≡ gs ++ e ∷ [] =
    c.in_ok-push.ensures ∙ ap (λ (d : Cell). gs ++ bare (record { point = c.args.point.now; cell = d }) ∷ []) c.cell.ensures.value in
    record {
      items = ap (map pair_of) is ∙ appended gs e none;
      joins = appended-joins gs e none;
    }

pub returns-clause-places : goal.returns-clause-places
returns-clause-places c = ap (map place_of) c.in_ok-push.ensures ∙ map-append place_of c.args.groups.now _

pub returns-clause-zeros : goal.returns-clause-zeros
returns-clause-zeros c = λ zeros. All-same (λ (e : Entry). EndsInZeros e.cell) _ _ c.in_ok-push.ensures
    (All-push (λ (e : Entry). EndsInZeros e.cell) c.args.groups.now _ zeros c.cell.ensures.zeros)
