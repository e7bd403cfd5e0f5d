use Rattle.std.proofs.Common.{rules, ◌≡◌, length, ap, sym, ◌∙◌}
use Rattle.point_groups.proofs.ClosedLists.{closed-long}
use Rattle.point_groups.proofs.columns.ClosedPoints.len.Goals as goal

pub returns-clause-count : goal.returns-clause-count
returns-clause-count c =
    let many : c.len.result ≡ length c.self.inside.measures.items = search (rules, c.len.ensures) in
    many ∙ (sym (closed-long c.self.inside) ∙ ap length c.self.view_is)
