-- What commands leave unchanged, and what holds of a session between two commands.
use Rattle.std.specs.Prelude.{◌≡◌, IsTrue, Result, IfErr, OnOk}
use Rattle.site_core.specs.Calls.{Rests}
use Rattle.site_core.specs.declared.site.Site.{Ghosts}
use Rattle.cube_state.specs.declared.state.State.{State}
use Rattle.cube_state.specs.declared.stop.Stop.{Stop}
use Rattle.cube_state.specs.Session.{IsFit, IsRunning}
use Rattle.cube_state.specs.Stops.{StopCause}

-- a session in this state fits a site, for any files
pub record RunsOn {S : Type 0} (T : Ghosts S) (site : S) (state : State) : Type 0 where
  pub running : IsRunning state
  pub fit : IsTrue T.tells → IsFit state (T.disk site)

-- a stop names what failed; without a stop nothing failed
pub record StopsFor {S A : Type 0} (T : Ghosts S) (old new : S) (result : Result A Stop) : Type 0 where
  pub cause : IfErr result (StopCause (T.disk_faults old) (T.disk_faults new) (T.told_faults old) (T.told_faults new))
  pub disk_faults : OnOk result (T.disk_faults new ≡ T.disk_faults old)
  pub told_faults : OnOk result (T.told_faults new ≡ T.told_faults old)

-- the same before the reply is written: nothing is output
pub record IsQuiet {S A : Type 0} (T : Ghosts S) (old new : S) (result : Result A Stop) : Type 0 where
  pub told : IsTrue T.tells → (T.disk new).told ≡ (T.disk old).told
  pub cause : IfErr result (StopCause (T.disk_faults old) (T.disk_faults new) (T.told_faults old) (T.told_faults new))
  pub disk_faults : OnOk result (T.disk_faults new ≡ T.disk_faults old)
  pub told_faults : T.told_faults new ≡ T.told_faults old

-- a command that only reads files: before its reply it is quiet, writes nothing and changes nothing
pub record OnlyLooks {S A : Type 0} (T : Ghosts S) (old new : S) (result : Result A Stop) : Type 0 where
  pub quiet : IsQuiet T old new result
  pub disk : IsTrue T.tells → Rests (T.disk old) (T.disk new)
  pub writes : T.writes new ≡ T.writes old
