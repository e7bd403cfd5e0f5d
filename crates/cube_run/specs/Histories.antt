-- What a run does to histories: they go on with it, and each numbered batch is accepted once.
use Rattle.std.specs.Prelude.{◌≡◌, ◌⊎◌, ℕ, List}
use Rattle.site_core.specs.Disk.{Disk}
use Rattle.site_core.specs.Moments.{HoldsNow, LeavesOnly}
use Rattle.spec_machine.specs.World.{Kept}
use Rattle.spec_crash.specs.Stops.{GoesOnOnce}
use Rattle.cube_run.specs.declared.exit.Status.{Status}
use Rattle.cube_run.specs.Headline.{HasOpened}

-- a run over this script, of which so much is left in the source, from what files kept at its start
pub record HistoriesGoOn (kept : Kept) (script left : List ℕ) (start now : Disk) (status : Status) : Type 0 where
  -- a stop at any moment leaves files with which they go on, or nothing told and what a stop at the start might have left
  pub any_stop : LeavesOnly start now (λ told files. GoesOnOnce kept script start.told told files ⊎ ((told ≡ start.told) × start.may_leave files))
  -- and behind the run they go on with the files as read, and with all that a stop then may leave, where the files were opened
  pub behind : HasOpened script left status → HoldsNow (GoesOnOnce kept script start.told now.told) now
