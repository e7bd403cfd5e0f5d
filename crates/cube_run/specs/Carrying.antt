-- How the commands of a script are carried out, while its bytes are fed.
use Rattle.std.specs.Prelude.{◌≡◌, IsTrue, false, List, [], ◌++◌, length, ℕ, Option, Result, IfErr, OnOk}
use Rattle.site_core.specs.declared.site.Site.{Ghosts}
use Rattle.page_cache.specs.Giving.{Cache}
use Rattle.script_lang.specs.Reading.{Reading, ready, to_come, whole_with}
use Rattle.script_lang.specs.declared.command.Command.{Command}
use Rattle.spec_machine.specs.World.{World}
use Rattle.cube_state.specs.Stops.{IsNoDamage, StopCause}
use Rattle.cube_session.specs.declared.held.Held.{Held}
use Rattle.cube_state.specs.declared.stop.Stop.{Stop}
use Rattle.cube_session.specs.Session.{Runs, StandsFor}
use Rattle.cube_run.specs.Onward.{IsWithin, Onward}
use Rattle.cube_run.specs.Replied.{HasReplied}

-- when these bytes were fed, these commands were given, and behind them the others are to come, whatever is fed next
pub record Reads (given : List Command) (piece : List ℕ) (before after : Reading) : Type 0 where
  pub all : (more : List ℕ) → to_come before (piece ++ more) ≡ given ++ to_come after more
  pub whole : before.over ≡ false → (more : List ℕ) → whole_with before (piece ++ more) ≡ given ++ whole_with after more
  pub over : after.over ≡ before.over

-- a session that had this carried out these commands, whatever comes behind them, and has that now
pub record HasGone {S : Type 0} (T : Ghosts S) (had has : Option Held) (commands : List Command) (old new : S) (cache : Cache) : Type 0 where
  pub onward : IsTrue T.tells → (world : World) → StandsFor had (T.disk old) world → (rest : List Command) → Onward T had has world (commands ++ rest) rest old new
  pub replied : IsTrue T.tells → HasReplied commands had has (T.disk old) (T.disk new)
  pub runs : Runs T new has cache
  pub quiet : (T.disk_faults new ≡ T.disk_faults old) × (T.told_faults new ≡ T.told_faults old)

-- a stop ended it in the last of these commands, or behind it
pub record HasStopped {S : Type 0} (T : Ghosts S) (had : Option Held) (commands : List Command) (old new : S) (stop : Stop) : Type 0 where
  pub within : IsTrue T.tells → (world : World) → StandsFor had (T.disk old) world → (rest : List Command) → IsWithin T had world (commands ++ rest) old new
  pub undamaged : IsTrue T.tells → (world : World) → StandsFor had (T.disk old) world → IsNoDamage stop
  -- damage is told by a command alone
  pub unbegun : length commands ≡ 0 → IsNoDamage stop
  pub cause : StopCause (T.disk_faults old) (T.disk_faults new) (T.told_faults old) (T.told_faults new) stop

-- the commands that were whole are carried out, and the script is read up to here, or a stop came before
pub record CarriesOn {S : Type 0} (T : Ghosts S) (had has : Option Held) (before lines : Reading) (old new : S) (cache : Cache) (result : Result (Unit {0}) Stop) : Type 0 where
  pub given : List Command
  pub reads : Reads given [] before lines
  pub gone : OnOk result (HasGone T had has given old new cache)
  pub none : OnOk result ((ready lines ≡ []) × (lines.rest ≡ []))
  pub stopped : IfErr result (HasStopped T had given old new)
