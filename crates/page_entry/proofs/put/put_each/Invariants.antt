use Rattle.std.proofs.Common.{◌≡◌, ◌+◌, ◌*◌, ◌++◌, take}
use Rattle.std.specs.Prelude.{flat_map}
use Rattle.be_numbers.specs.Numbers.{coded}
use Rattle.page_entry.specs.Bytes.{width}
use Rattle.page_entry.proofs.put.put_each.Given as goal

abbrev pub invariant-loop-i : goal.invariant-loop-i
invariant-loop-i l = record {
  next : l.next ≡ l.at + l.i * width l.wide;
  written : take l.next l.page ≡ take l.at l.fn.page ++ flat_map (coded (width l.wide)) (take l.i l.coordinates);
}
