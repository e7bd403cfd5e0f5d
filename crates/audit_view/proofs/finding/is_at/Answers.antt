use Rattle.std.proofs.Common.{arith, sym, ◌∙◌}
use Rattle.audit_points.specs.Kept.{points_of}
use Rattle.audit_view.proofs.Order.{equal-stands}
use Rattle.audit_view.proofs.finding.is_at.Goals as goal

pub returns-in-Equal : goal.returns-in-Equal
returns-in-Equal c = λ _. equal-stands (points_of c.args.view.now) c.args.point.now.at c.point.result c.args.index c.point.ensures.point (omega arith) (sym c.compare.ensures ∙ c.in-Equal.is)
