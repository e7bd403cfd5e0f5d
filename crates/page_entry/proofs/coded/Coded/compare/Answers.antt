use Rattle.std.proofs.Common.{ap, ◌∙◌}
use Rattle.cube_point.specs.declared.point.Entry.{Entry}
use Rattle.cube_point.specs.Points.{point_cmp}
use Rattle.page_entry.proofs.coded.Coded.compare.Goals as goal

pub returns : goal.returns
returns c = c.compare_with.ensures ∙ ap (λ (e : Entry). point_cmp e.point.at c.args.point.now.at) c.self.view_is
