use Rattle.std.proofs.Common.{get_or, ap, ◌∙◌}
use Rattle.cube_point.specs.declared.point.Entry.{Entry}
use Rattle.point_groups.proofs.ClosedLists.{found}
use Rattle.point_groups.proofs.columns.ClosedPoints.coordinate.Goals as goal

pub returns : goal.returns
returns c = c.number_in.ensures ∙ ap (λ (e : Entry). get_or e.point.at c.args.dimension 0) (found c.self.inside c.args.self.now c.args.number c.self.view_is c.requires)
