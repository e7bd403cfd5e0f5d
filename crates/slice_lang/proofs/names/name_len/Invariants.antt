use Rattle.std.proofs.Common.{◌≡◌, ◌+◌, drop}
use Rattle.std.specs.List.{prefix_len}
use Rattle.cube_schema.specs.Words.{is_name_byte}
use Rattle.slice_lang.proofs.names.name_len.Given as goal

-- each byte passed may stand in a name
abbrev pub invariant-loop-byte : goal.invariant-loop-byte
invariant-loop-byte l = record {
  len : l.len ≡ l.byte-index;
  all : l.byte-index + prefix_len is_name_byte (drop l.byte-index l.text) ≡ prefix_len is_name_byte l.text;
}
