use Rattle.std.proofs.Common.{◌≡◌, ◌≤◌, length}
use Rattle.attr_dict.specs.Entering.{HasRead}
use Rattle.attr_dict.proofs.read.read_entries.Given as goal

abbrev pub decreases-loop-rest : goal.decreases-loop-rest
decreases-loop-rest l = length l.rest

-- the entries in front of the rest have entered
abbrev pub invariant-loop-rest : goal.invariant-loop-rest
invariant-loop-rest l = record {
  same : length l.names.items ≡ length l.kinds;
  short : length l.rest ≤ length l.bytes;
  so-far : HasRead (record { kinds = l.kinds; names = l.fn.names.items }) (record { kinds = l.kinds; names = l.names.items }) l.bytes l.rest;
}
