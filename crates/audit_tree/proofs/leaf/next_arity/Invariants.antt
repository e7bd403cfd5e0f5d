use Rattle.std.proofs.Common.{◌≡◌, ◌<◌, ℕ}
use Rattle.std.specs.Prelude.{slice_index}
use Rattle.audit_tree.proofs.leaf.next_arity.Given as goal

-- none of the lesser arities has points left
abbrev pub invariant-loop-arity : goal.invariant-loop-arity
invariant-loop-arity l = (i : ℕ) → i < l.arity → slice_index l.left i ≡ 0
