use Rattle.std.proofs.Common.{◌≡◌, ℕ, List, drop}
use Rattle.spec_points.specs.Answer.{coordinate}
use Rattle.slice_rows.proofs.value_ranks.greatest_code.Given as goal

-- the attributes passed are others
abbrev pub invariant-loop-i : goal.invariant-loop-i
invariant-loop-i l = (place : List ℕ) → coordinate (drop l.i l.view) (drop l.i place) l.attr ≡ coordinate l.view place l.attr
