use Rattle.std.proofs.Common.{◌≤◌, ◌-◌}
use Rattle.std.specs.Vec.{vec_len}
use Rattle.site_mem.specs.Tape.{IsDrawnTo}
use Rattle.site_mem.proofs.tape.Tape.drawn.Given as goal

abbrev pub invariant-loop-draws : goal.invariant-loop-draws
invariant-loop-draws l = record {
  drawn : IsDrawnTo l.self l.file l.fn.draws.state (vec_len l.bytes) l.bytes.items l.draws.state;
  within : vec_len l.bytes ≤ l.length;
}

abbrev pub decreases-loop-draws : goal.decreases-loop-draws
decreases-loop-draws l = l.length - vec_len l.bytes
