use Rattle.std.proofs.Common.{◌<◌, ◌≤◌, ℕ, List, [], length, get_or, sym, subst}
use Rattle.cube_schema.specs.declared.Kind.TheVariants as kind
use Rattle.cube_schema.specs.Kinds.{max_of}
use Rattle.spec_points.specs.Codes.{Text}
use Rattle.attr_dict.proofs.Fulls.{none-within}
use Rattle.attr_dict.proofs.take.take_in.Goals as goal

pub returns-in-None-clause-within : goal.returns-in-None-clause-within
returns-in-None-clause-within c =
    let kinds = c.args.kinds.now in
    subst (λ (names : List (List Text)). (a : ℕ) → a < length kinds → length (get_or names a []) ≤ max_of (get_or kinds a kind.Number)) c.as_slice.ensures.value
    (none-within kinds c.as_slice.result.now (sym c.in-None.ensures))
