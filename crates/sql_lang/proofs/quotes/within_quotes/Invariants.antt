use Rattle.std.proofs.Common.{◌≡◌, ◌≤◌, length}
use Rattle.sql_lang.specs.Tokens.{within_quotes}
use Rattle.sql_lang.proofs.QuotedTexts.{with_front}
use Rattle.sql_lang.proofs.quotes.within_quotes.Given as goal

-- what was taken, in front of what the rest gives, is what the whole gives
abbrev pub invariant-loop-byte : goal.invariant-loop-byte
invariant-loop-byte l = record {
  taken : with_front l.bytes.items (within_quotes l.rest) ≡ within_quotes l.text;
  shorter : length l.rest ≤ length l.text;
}

abbrev pub decreases-loop-byte : goal.decreases-loop-byte
decreases-loop-byte l = length l.rest
