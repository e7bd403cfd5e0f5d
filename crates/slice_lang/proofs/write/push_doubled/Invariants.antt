use Rattle.std.proofs.Common.{◌≡◌, ◌++◌, drop}
use Rattle.std.specs.Prelude.{flat_map}
use Rattle.slice_lang.specs.Writing.{doubled}
use Rattle.slice_lang.proofs.write.push_doubled.Given as goal

-- the text so far, with the bytes to come, is the whole
abbrev pub invariant-loop-byte : goal.invariant-loop-byte
invariant-loop-byte l = l.text.items ++ flat_map doubled (drop l.byte-index l.bytes) ≡ l.fn.text.items ++ flat_map doubled l.bytes
