use Rattle.std.proofs.Common.{◌<◌, ◌≤◌, ℕ, List, length, inl, inr, arith}
use Rattle.std.specs.Prelude.{slice_index}
use Rattle.std.proofs.lemmas.Bool.{cases_lt}
use Rattle.std.proofs.lemmas.List.{get_or_past}
use Rattle.delta_agg.proofs.digits.raise.Goals as goal

-- a positive coordinate is there
there : (coordinates : List ℕ) (a : ℕ) → 1 ≤ slice_index coordinates a → a < length coordinates
there coordinates a some = elim (cases_lt a (length coordinates)) [
  | inl low ↦ low
  | inr past ↦ absurd (omega (arith, some, get_or_past coordinates a 0 past))
]

pub bounds-coordinates-attr : goal.bounds-coordinates-attr
bounds-coordinates-attr c = there c.args.coordinates.now c.loop-attr.attr (c.requires.coordinates c.loop-attr.attr (omega (arith, c.loop-attr.invariant.long, c.loop-attr-test.true)))
