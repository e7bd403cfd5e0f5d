use Rattle.std.proofs.Common.{◌≡◌, ℕ, ◌+◌, ◌<◌, List, [], ◌++◌, length, get_or}
use Rattle.std.specs.List.{All}
use Rattle.fact_batch.specs.Batch.{values_in}
use Rattle.spec_points.specs.Codes.{Text}
use Rattle.attr_dict.specs.Admitting.{Grew}
use Rattle.attr_dict.specs.Coding.{AreNamesOf}
use Rattle.attr_dict.specs.Sizes.{IsSmall}
use Rattle.attr_dict.proofs.Onwards.{Onward}
use Rattle.attr_dict.proofs.Rounds.{around, codes_in, texts_in}
use Rattle.attr_dict.proofs.coding.code_batch.Given as goal

abbrev pub decreases-loop-value : goal.decreases-loop-value
decreases-loop-value l = length l.values

-- the codes so far, with those of the values to come, are those of all values, and the entries go on with those to come
abbrev pub invariant-loop-value : goal.invariant-loop-value
invariant-loop-value l = record {
  same : length l.names.items ≡ length l.fn.names.items;
  attr : 0 < length l.values → l.attr < l.width;
  small : All IsSmall l.values;
  count : length l.codes.items + length l.values ≡ length (values_in l.facts);
  grew : (a : ℕ) → Grew (get_or l.fn.names.items a []) (get_or l.names.items a []);
  coded : (later : List (List Text)) → ((a : ℕ) → Grew (get_or l.names.items a []) (get_or later a []))
      → l.codes.items ++ codes_in later (around l.width l.attr l.values) ≡ codes_in later (around l.width 0 (values_in l.facts));
  onward : (seen : List (ℕ × Text)) → AreNamesOf seen l.fn.names.items
      → Onward l.names.items l.entries.items seen (texts_in (around l.width 0 (values_in l.facts))) (texts_in (around l.width l.attr l.values));
}
