use Rattle.std.proofs.Common.{◌≡◌, ◌-◌, ◌++◌, ℕ, length, map, replicate, take}
use Rattle.std.specs.Prelude.{slice_index}
use Rattle.attr_dict.specs.Book.{Book, names_at}
use Rattle.forest_audit.specs.Limits.{attr_limit}
use Rattle.forest_audit.proofs.limits.dimension_limits.Given as goal

-- the limits of the first dimensions are put, and zeros follow
abbrev pub invariant-loop-dimension : goal.invariant-loop-dimension
invariant-loop-dimension l = (names : Book) → ((a : ℕ) → slice_index l.lengths.at a ≡ length (names_at names a))
    → l.limits ≡ map (attr_limit l.schema names) (take l.dimension l.view) ++ replicate (8 - l.dimension) 0
