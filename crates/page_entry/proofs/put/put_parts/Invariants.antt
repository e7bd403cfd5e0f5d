use Rattle.std.proofs.Common.{◌≡◌, ◌+◌, ◌*◌, ◌++◌, take}
use Rattle.std.specs.Prelude.{flat_map}
use Rattle.page_entry.specs.Bytes.{part_bytes}
use Rattle.page_entry.proofs.put.put_parts.Given as goal

abbrev pub invariant-loop-i : goal.invariant-loop-i
invariant-loop-i l = record {
  next : l.next ≡ l.at + l.i * 48;
  written : take l.next l.page ≡ take l.at l.fn.page ++ flat_map part_bytes (take l.i l.parts);
}
