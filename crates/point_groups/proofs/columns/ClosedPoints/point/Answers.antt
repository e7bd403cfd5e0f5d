use Rattle.std.proofs.Common.{ap, ◌∙◌}
use Rattle.cube_point.specs.declared.point.Entry.{Entry}
use Rattle.point_groups.proofs.ClosedLists.{found}
use Rattle.point_groups.proofs.columns.ClosedPoints.point.Goals as goal

pub returns : goal.returns
returns c = (λ i. record { arity = 0; at = c.numbers_at.ensures i }) ∙ ap (λ (e : Entry). e.point) (found c.self.inside c.args.self.now c.args.number c.self.view_is c.requires)
