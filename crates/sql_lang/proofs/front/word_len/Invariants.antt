use Rattle.std.proofs.Common.{◌≡◌, ◌+◌, drop}
use Rattle.std.specs.List.{prefix_len}
use Rattle.sql_lang.specs.Tokens.{is_word_byte}
use Rattle.sql_lang.proofs.front.word_len.Given as goal

-- each byte passed may stand in a word
abbrev pub invariant-loop-byte : goal.invariant-loop-byte
invariant-loop-byte l = record {
  len : l.len ≡ l.byte-index;
  all : l.byte-index + prefix_len is_word_byte (drop l.byte-index l.text) ≡ prefix_len is_word_byte l.text;
}
