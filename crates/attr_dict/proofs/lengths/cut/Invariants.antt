use Rattle.std.proofs.Common.{◌≡◌, ℕ, ◌<◌, ◌≤◌, [], length, get_or, take}
use Rattle.attr_dict.proofs.lengths.cut.Given as goal

-- the attributes passed are cut, and the others as before
abbrev pub invariant-loop-attr : goal.invariant-loop-attr
invariant-loop-attr l = record {
  size : length l.names.items ≡ length l.fn.names.items;
  passed : (a : ℕ) → a < l.attr → get_or l.names.items a [] ≡ take (get_or l.lengths.at a 0) (get_or l.fn.names.items a []);
  others : (a : ℕ) → l.attr ≤ a → get_or l.names.items a [] ≡ get_or l.fn.names.items a [];
}
