use Rattle.std.proofs.Common.{◌≡◌, ◌≤◌, ◌-◌}
use Rattle.std.specs.Vec.{vec_len}
use Rattle.site_mem.specs.Tape.{tape_pictured}
use Rattle.site_mem.proofs.tape.Tape.filled.Given as goal

abbrev pub invariant-loop-bytes : goal.invariant-loop-bytes
invariant-loop-bytes l = record {
  bytes : l.bytes.items ≡ tape_pictured l.self l.file (vec_len l.bytes) (λ i. l.byte);
  within : vec_len l.bytes ≤ l.length;
}

abbrev pub decreases-loop-bytes : goal.decreases-loop-bytes
decreases-loop-bytes l = l.length - vec_len l.bytes
