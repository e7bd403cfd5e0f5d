use Rattle.std.proofs.Common.{◌≡◌, ◌≤◌, length}
use Rattle.slice_lang.specs.Values.{within_quotes}
use Rattle.slice_lang.proofs.Quotes.{with_front}
use Rattle.slice_lang.proofs.values.within_quotes.Given as goal

-- what was taken, in front of what the rest gives, is what the whole gives
abbrev pub invariant-loop-rest : goal.invariant-loop-rest
invariant-loop-rest l = record {
  taken : with_front l.bytes.items (within_quotes l.rest) ≡ within_quotes l.text;
  shorter : length l.rest ≤ length l.text;
}

abbrev pub decreases-loop-rest : goal.decreases-loop-rest
decreases-loop-rest l = length l.rest
