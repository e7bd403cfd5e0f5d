use Rattle.site_mem.proofs.tape.Tape.drawn.Goals as goal

pub loop-draws-preserved : goal.loop-draws-preserved
loop-draws-preserved c = record {
  drawn = c.in_ok-push_drawn.ensures.drawn _ c.loop-draws.invariant.drawn;
  within = c.in_ok-push_drawn.ensures.within;
}
