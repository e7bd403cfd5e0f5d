-- How a session serves a script.
use Rattle.std.specs.Prelude.{◌≡◌, ◌⊎◌, ◌≤◌, ◌+◌, ℕ, IsTrue, List, [], Option}
use Rattle.site_core.specs.Disk.{Disk}
use Rattle.site_core.specs.declared.site.Site.{Ghosts as Sites}
use Rattle.site_core.specs.declared.source.Source.{Ghosts as Sources}
use Rattle.script_lang.specs.Script.{commands}
use Rattle.spec_machine.specs.World.{World}
use Rattle.cube_state.specs.Moves.{Reached}
use Rattle.cube_session.specs.declared.held.Held.{Held}
use Rattle.cube_session.specs.Session.{StandsFor, reached_for}
use Rattle.cube_run.specs.Ends.{IsUndamaged, StatusCause, faults}
use Rattle.cube_run.specs.Headline.{CutOff, Finished, LeftOff}
use Rattle.cube_run.specs.Onward.{IsWithin}
use Rattle.cube_run.specs.Pulls.{Gave, GaveAtMost}
use Rattle.cube_run.specs.Replied.{RepliesToAll}
use Rattle.cube_run.specs.declared.exit.Status.{Status}
use Rattle.cube_run.specs.declared.exit.Status.TheVariants.{Done, Input, TooLong, Usage}

-- what holds at the end of the script, past its limit and where the source failed; the words were taken
abbrev pub ByEnd : (done too_long input : Type 0) → Status → Type 0
ByEnd done too_long input Done = done
ByEnd done too_long input TooLong = too_long
ByEnd done too_long input Input = input
ByEnd done too_long input Usage = ⊥
ByEnd done too_long input _ = Unit {0}

-- which commands were carried out then
abbrev pub Outcome : Disk → World → Reached → List ℕ → List ℕ → ℕ → List ℕ → Status → Type 0
Outcome now world reached script left most before status =
    ByEnd (Finished now world reached (commands script) before) (LeftOff now world reached script most before) (CutOff now world reached script left before) status

-- a session that had this served a script of at most so many bytes, or something ended it
pub record Serves {A B : Type 0} (S : Sources A) (T : Sites B) (had : Option Held) (most : ℕ) (source source_now : A) (site site_now : B) (status : Status) : Type 0 where
  pub within : IsTrue S.tells → IsTrue T.tells → (world : World) → StandsFor had (T.disk site) world → IsWithin T had world (commands (S.left source)) site site_now
  pub outcome : IsTrue S.tells → IsTrue T.tells → (world : World) → StandsFor had (T.disk site) world
      → Outcome (T.disk site_now) world (reached_for had) (S.left source) (S.left source_now) most (T.disk site).told status
  pub undamaged : IsTrue T.tells → (world : World) → StandsFor had (T.disk site) world → IsUndamaged status
  pub unpulled : IsTrue S.tells → Gave (S.left source) (S.left source_now) 0 → IsUndamaged status
  pub few : IsTrue S.tells → GaveAtMost (S.left source) (S.left source_now) most ⊎ (status ≡ TooLong)
  pub pulled : ByEnd (IsTrue S.tells → (S.left source_now ≡ []) × (IsTrue T.tells → RepliesToAll (commands (S.left source)) had (T.disk site) (T.disk site_now)))
      (IsTrue S.tells → Gave (S.left source) (S.left source_now) (most + 1)) (Unit {0}) status
  pub asked : S.ends source_now ≤ S.ends source + 1
  pub cause : StatusCause (faults (S.faults source) (T.disk_faults site) (T.told_faults site)) (faults (S.faults source_now) (T.disk_faults site_now) (T.told_faults site_now)) status
