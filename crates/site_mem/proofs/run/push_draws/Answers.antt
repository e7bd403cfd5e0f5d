use Rattle.std.proofs.Common.{◌%◌, sym, ◌∙◌, ap, arith}
use Rattle.lcg.specs.Draw.{next_state}
use Rattle.site_mem.proofs.Pictures.{state_after-more}
use Rattle.site_mem.proofs.Runs.{drawn-push}
use Rattle.site_mem.proofs.run.push_draws.Goals as goal

pub loop-count-preserved : goal.loop-count-preserved
loop-count-preserved c = record {
  bytes = drawn-push c.args.bytes.now.items c.loop-count.bytes.items c.push.new.self.items c.args.draws.now.state c.loop-count.draws.state c.loop-count._count _
      c.in_ok-push.ensures.items c.loop-count.invariant.bytes c.loop-count.invariant.state (ap (λ d. d % 256) c.draw.ensures.value);
  len = omega (arith, c.in_ok-push.ensures.len, c.loop-count.invariant.len);
  state = c.draw.ensures.after ∙ ap next_state c.loop-count.invariant.state ∙ sym (state_after-more c.args.draws.now.state c.loop-count._count);
}
