use Rattle.std.proofs.Common.{◌≡◌, take, reverse}
use Rattle.site_mem.specs.Tape.{tape_first, tape_steps}
use Rattle.site_mem.proofs.tape.Tape.front.Given as goal

abbrev pub invariant-loop-step : goal.invariant-loop-step
invariant-loop-step l = record {
  first : tape_first l.tape ≡ tape_first l.self;
  steps : tape_steps l.tape ≡ reverse (take l.step-index l.steps);
}
