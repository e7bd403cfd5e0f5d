use Rattle.std.proofs.Common.{ℕ, List, get_or, ap, ◌∙◌}
use Rattle.cube_point.specs.declared.point.Entry.{Entry}
use Rattle.point_groups.proofs.ClosedLists.{found}
use Rattle.point_groups.proofs.columns.ClosedPoints.count.Goals as goal

pub returns : goal.returns
returns c =
    c.number_at.ensures
    ∙ (ap (λ (l : List ℕ). get_or l c.args.number 0) c.deref.ensures.value
    ∙ ap (λ (e : Entry). e.cell.count) (found c.self.inside c.args.self.now c.args.number c.self.view_is c.requires))
