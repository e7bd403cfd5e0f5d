-- How a session goes on over commands.
use Rattle.std.specs.Prelude.{◌≡◌, ◌≤◌, ◌+◌, ℕ, List, Option}
use Rattle.site_core.specs.Disk.{Files}
use Rattle.site_core.specs.Moments.{LeavesOnly}
use Rattle.site_core.specs.declared.site.Site.{Ghosts}
use Rattle.script_lang.specs.declared.command.Command.{Command}
use Rattle.spec_machine.specs.World.{World}
use Rattle.spec_crash.specs.Stops.{AfterStop, Carried}
use Rattle.cube_state.specs.Commands.{CostTogether}
use Rattle.cube_state.specs.Costs.{Cost, Spends}
use Rattle.cube_state.specs.Moves.{KeepsFormat, Reached, reached_from}
use Rattle.cube_session.specs.declared.held.Held.{Held}
use Rattle.cube_session.specs.Session.{StandsFor, reached_for}

-- whatever the end, what a stop may leave and what was spent is of these commands
pub record IsWithin {S : Type 0} (T : Ghosts S) (had : Option Held) (world : World) (commands : List Command) (old new : S) : Type 0 where
  pub any_moment : LeavesOnly (T.disk old) (T.disk new) (AfterStop world commands (T.disk old).told)
  pub formats : LeavesOnly (T.disk old) (T.disk new) (KeepsFormat world (reached_for had) commands (T.disk old).told)
  pub cost : (cost : Cost) → CostTogether world (reached_for had) commands cost → Spends T cost old new

-- of what all commands cost enough is left for the others
pub record IsLeft {S : Type 0} (T : Ghosts S) (old new : S) (now : World) (reached : Reached) (rest : List Command) (all : Cost) : Type 0 where
  pub left : Cost
  pub costs : CostTogether now reached rest left
  pub reads : T.reads new + left.reads ≤ T.reads old + all.reads
  pub writes : T.writes new + left.writes ≤ T.writes old + all.writes

-- a session that had this has that now, and stands for a world from which the commands that are left are to be carried out
pub record Onward {S : Type 0} (T : Ghosts S) (had has : Option Held) (world : World) (commands rest : List Command) (old new : S) : Type 0 where
  pub now : World
  pub stands : StandsFor has (T.disk new) now
  pub carried : Carried world commands (T.disk old).told now rest (T.disk new).told
  -- the same will be reached in the end
  pub moved : reached_from world (reached_for had) commands ≡ reached_from now (reached_for has) rest
  pub spent : (all : Cost) → CostTogether world (reached_for had) commands all → IsLeft T old new now (reached_for has) rest all
  pub any_moment : LeavesOnly (T.disk old) (T.disk new) (AfterStop world commands (T.disk old).told)
  pub formats : LeavesOnly (T.disk old) (T.disk new) (KeepsFormat world (reached_for had) commands (T.disk old).told)
  -- what a stop leaves that is right from here on is right from the start
  pub formats_onto : (told : List ℕ) (files : Files) → KeepsFormat now (reached_for has) rest (T.disk new).told told files → KeepsFormat world (reached_for had) commands (T.disk old).told told files
