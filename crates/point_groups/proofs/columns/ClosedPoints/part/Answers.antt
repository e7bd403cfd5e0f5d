use Rattle.std.proofs.Common.{[], get_or, ap, ◌∙◌}
use Rattle.cube_point.specs.declared.point.Entry.{Entry}
use Rattle.fact_model.specs.Cell.{part_of}
use Rattle.point_groups.proofs.ClosedLists.{found}
use Rattle.point_groups.proofs.columns.ClosedPoints.part.Goals as goal

pub returns : goal.returns
returns c = c.part_in.ensures ∙ ap (λ (e : Entry). get_or e.cell.parts c.args.measure (part_of [])) (found c.self.inside c.args.self.now c.args.number c.self.view_is c.requires)
