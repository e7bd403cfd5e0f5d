use Rattle.std.proofs.Common.{◌≡◌, ◌+◌, drop}
use Rattle.std.specs.List.{prefix_len}
use Rattle.std.specs.Char.{is_ascii_digit}
use Rattle.sql_lang.proofs.front.digits_len.Given as goal

-- each byte passed is a digit
abbrev pub invariant-loop-byte : goal.invariant-loop-byte
invariant-loop-byte l = record {
  len : l.len ≡ l.byte-index;
  all : l.byte-index + prefix_len is_ascii_digit (drop l.byte-index l.text) ≡ prefix_len is_ascii_digit l.text;
}
