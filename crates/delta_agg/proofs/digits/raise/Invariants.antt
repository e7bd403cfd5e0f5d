use Rattle.std.proofs.Common.{◌≡◌, ◌<◌, ◌≤◌, ℕ, length}
use Rattle.std.specs.Prelude.{slice_index}
use Rattle.delta_agg.specs.Rows.{IsUnder}
use Rattle.delta_agg.proofs.digits.raise.Given as goal

-- the tops of the attributes passed are raised
abbrev pub invariant-loop-attr : goal.invariant-loop-attr
invariant-loop-attr l = record {
  long : length l.tops.items ≡ length l.initial.tops.items;
  under : (a : ℕ) → a < l.attr → slice_index l.coordinates a ≤ slice_index l.tops.items a;
  raised : IsUnder l.tops.items l.initial.tops.items;
}
