use Rattle.std.proofs.Common.{◌≡◌, ◌+◌, ◌++◌}
use Rattle.std.specs.Vec.{vec_len}
use Rattle.lcg.specs.Draw.{state_after}
use Rattle.site_mem.specs.Image.{drawn_bytes}
use Rattle.site_mem.proofs.run.push_draws.Given as goal

abbrev pub invariant-loop-count : goal.invariant-loop-count
invariant-loop-count l = record {
  bytes : l.bytes.items ≡ l.fn.bytes.items ++ drawn_bytes l.fn.draws.state l._count;
  len : vec_len l.bytes ≡ vec_len l.fn.bytes + l._count;
  state : l.draws.state ≡ state_after l.fn.draws.state l._count;
}
