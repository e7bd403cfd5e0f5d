use Rattle.std.proofs.Common.{ℕ, ◌<◌, ◌≤◌, [], length, get_or}
use Rattle.cube_schema.specs.declared.Kind.TheVariants as kind
use Rattle.cube_schema.specs.Kinds.{max_of}
use Rattle.attr_dict.proofs.admit.first_full.Given as goal

-- the attributes passed are not full
abbrev pub invariant-loop-attr : goal.invariant-loop-attr
invariant-loop-attr l = (a : ℕ) → a < l.attr → length (get_or l.names a []) ≤ max_of (get_or l.kinds a kind.Number)
