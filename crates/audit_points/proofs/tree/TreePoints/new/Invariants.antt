use Rattle.std.proofs.Common.{◌≡◌, ◌<◌, ℕ, get_or, length}
use Rattle.audit_points.specs.Kept.{Kept, no_points}
use Rattle.audit_points.proofs.tree.TreePoints.new.Given as goal

-- the arities before this one have no points
abbrev pub invariant-loop-arity : goal.invariant-loop-arity
invariant-loop-arity l = record {
  many : length l.views.items ≡ l.arity;
  fresh : (arity : ℕ) (d : Kept) → arity < l.arity → get_or l.views.items arity d ≡ no_points l.shape arity;
}
