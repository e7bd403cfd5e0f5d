use Rattle.std.proofs.Common.{◌≡◌, ◌-◌, ◌++◌, ℕ, length, map, replicate, take}
use Rattle.std.specs.Prelude.{slice_index}
use Rattle.attr_dict.specs.Book.{Book, names_at}
use Rattle.forest_audit.specs.Limits.{view_limits}
use Rattle.forest_audit.proofs.limits.tree_limits.Given as goal

-- the limits of the first arities are put, and zeros follow
abbrev pub invariant-loop-arity : goal.invariant-loop-arity
invariant-loop-arity l = (names : Book) → ((a : ℕ) → slice_index l.lengths.at a ≡ length (names_at names a))
    → l.limits ≡ map (view_limits l.schema names) (take l.arity l.tree.view_of) ++ replicate (9 - l.arity) (replicate 8 0)
