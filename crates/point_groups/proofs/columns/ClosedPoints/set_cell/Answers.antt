use Rattle.std.proofs.Common.{rules, List, get_or, set, refl, ap, ◌∙◌}
use Rattle.cube_point.specs.declared.point.Entry.{Entry}
use Rattle.point_groups.specs.Bare.{nowhere, with_cell}
use Rattle.point_groups.proofs.ClosedLists.{celled, within}
use Rattle.point_groups.proofs.columns.ClosedPoints.set_cell.Goals as goal

pub index_mut-requires : goal.index_mut-requires
index_mut-requires c = search (rules, within c.self.inside c.args.self.now c.args.number c.self.view_is c.requires)

pub returns : goal.returns
returns c =
    let was = c.self.inside in
    let at = c.args.number in
    let cell = c.args.cell.now in
    celled was
    (record { counts = c.put_number.new.numbers; measures = Rattle.std.specs.Vec.with_item was.measures at cell.measures; coordinates = was.coordinates; parts = c.put_parts.new.lists })
    at (λ k other. refl) c.in_ok-put_number.ensures.others c.in_ok-put_parts.ensures.others cell
    (within was c.args.self.now at c.self.view_is c.requires) refl refl c.in_ok-put_number.ensures.there c.in_ok-put_parts.ensures.there
    ∙ ap (λ (es : List Entry). set es at (with_cell (get_or es at nowhere) cell)) c.self.view_is
