use Rattle.std.proofs.Common.{◌*◌, ◌/◌, ◌^◌, ap}
use Rattle.std.proofs.Math.Nat.{mod-add-mod}
use Rattle.lcg.specs.Draw.{next_state, draw}
use Rattle.lcg.proofs.draw.Draws.draw.Goals as goal

pub returns-clause-value : goal.returns-clause-value
unfolding next_state draw
returns-clause-value c = ap (λ n. n / 2 ^ 33) (mod-add-mod (c.args.self.now.state * 6364136223846793005) (2 ^ 64) 1442695040888963407)

pub returns-clause-after : goal.returns-clause-after
unfolding next_state
returns-clause-after c = mod-add-mod (c.args.self.now.state * 6364136223846793005) (2 ^ 64) 1442695040888963407
