-- How many reads and writes a run may ask for.
use Rattle.std.specs.Prelude.{ℕ, List}
use Rattle.script_lang.specs.declared.command.Command.{Command}
use Rattle.site_core.specs.declared.site.Site.{Ghosts}
use Rattle.spec_crash.specs.Keeps.{HasFormat}
use Rattle.spec_machine.specs.World.{Kept, bare}
use Rattle.cube_state.specs.Commands.{CostTogether}
use Rattle.cube_state.specs.Costs.{Cost, Spends, both}
use Rattle.cube_state.specs.Moves.{unmoved}
use Rattle.cube_state.specs.Audits.{open_cost}

-- opening files that keep this, and something else
abbrev pub opening_and : Kept → Cost → Cost
opening_and kept cost = both (record { reads = open_cost kept; writes = 0 }) cost

-- the commands have a cost together, from the format that the files have, and no more is asked for than that and opening
pub record CostsRun {S : Type 0} (T : Ghosts S) (kept : Kept) (commands : List Command) (old new : S) : Type 0 where
  pub format : ℕ
  pub has : HasFormat (T.disk old).files kept format
  pub cost : Cost
  pub together : CostTogether (bare kept) (unmoved format) commands cost
  pub spent : Spends T (opening_and kept cost) old new
