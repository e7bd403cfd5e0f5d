use Rattle.std.proofs.Common.{ap, ◌∙◌}
use Rattle.cube_point.specs.declared.point.Entry.{Entry}
use Rattle.page_entry.proofs.coded.Coded.point.Goals as goal

pub returns : goal.returns
returns c = c.point_at.ensures ∙ ap (λ (e : Entry). e.point) c.self.view_is
