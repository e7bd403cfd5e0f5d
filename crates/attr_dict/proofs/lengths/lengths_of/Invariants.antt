use Rattle.std.proofs.Common.{◌≡◌, ℕ, ◌<◌, ◌≤◌, [], length, get_or}
use Rattle.attr_dict.proofs.lengths.lengths_of.Given as goal

-- the attributes passed have their lengths, and the others 0
abbrev pub invariant-loop-attr : goal.invariant-loop-attr
invariant-loop-attr l = record {
  size : length l.at ≡ 16;
  passed : (a : ℕ) → a < l.attr → get_or l.at a 0 ≡ length (get_or l.names a []);
  others : (a : ℕ) → l.attr ≤ a → get_or l.at a 0 ≡ 0;
}
