use Rattle.std.proofs.Common.{◌≡◌, ◌+◌, drop}
use Rattle.std.specs.List.{prefix_len}
use Rattle.slice_lang.specs.Values.{is_value_byte}
use Rattle.slice_lang.proofs.values.value_len.Given as goal

-- each byte passed may stand in a value without quotes
abbrev pub invariant-loop-byte : goal.invariant-loop-byte
invariant-loop-byte l = record {
  len : l.len ≡ l.byte-index;
  all : l.byte-index + prefix_len is_value_byte (drop l.byte-index l.text) ≡ prefix_len is_value_byte l.text;
}
