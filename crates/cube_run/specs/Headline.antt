-- The headline: what a run over a script tells, and what a stop at any moment of it may leave.
use Rattle.std.specs.Prelude.{◌≡◌, ◌≢◌, ◌⊎◌, ℕ, ◌+◌, ◌≤◌, ◌<◌, List, [], ◌++◌, take}
use Rattle.site_core.specs.Disk.{Files, Disk}
use Rattle.site_core.specs.Calls.{TellsFront}
use Rattle.site_core.specs.Moments.{LeavesOnly}
use Rattle.script_lang.specs.Script.{commands, whole}
use Rattle.script_lang.specs.declared.command.Command.{Command}
use Rattle.spec_machine.specs.World.{World}
use Rattle.spec_crash.specs.Keeps.{HasFormat, Keeps}
use Rattle.spec_machine.specs.Stages.{replies_from, replies, final}
use Rattle.spec_crash.specs.Stops.{AfterStop}
use Rattle.cube_state.specs.Moves.{FromFormat, HasMovedTo, KeepsFormat, Reached, reached_from}
use Rattle.cube_run.specs.declared.exit.Status.{Status}
use Rattle.cube_run.specs.declared.exit.Status.TheVariants.{Done, Input, TooLong}
use Rattle.cube_run.specs.Ends.{IsPastOpening}

-- a stop leaves of a run what it leaves of its commands, or nothing told and what a stop at the start might have left
abbrev pub AfterRun : World → List Command → Disk → List ℕ → Files → Type 0
AfterRun world commands start told files =
    AfterStop world commands start.told told files ⊎ ((told ≡ start.told) × start.may_leave files)

-- and so for the format of the live pages
abbrev pub FormatAfter : World → Reached → List Command → Disk → List ℕ → Files → Type 0
FormatAfter world reached commands start told files =
    KeepsFormat world reached commands start.told told files ⊎ ((told ≡ start.told) × start.may_leave files)

-- The files are opened and synced before the first byte of the script is pulled. So they were, where the source has given a byte, or
-- the run ended in what comes only behind that.
abbrev pub HasOpened : List ℕ → List ℕ → Status → Type 0
HasOpened script left status = (left ≢ script) ⊎ IsPastOpening status

-- The files were opened and synced at some moment. Since then a stop leaves what it leaves of the commands, whatever a stop before the run
-- might have left, and so does a stop right behind the run; before it nothing is told, and a stop leaves what one at the start might have left.
pub record Opened (start now : Disk) (world : World) (commands : List Command) : Type 0 where
  pub moment : ℕ
  pub later : start.clock ≤ moment
  pub past : moment ≤ now.clock
  pub since : (told : List ℕ) (files : Files) → now.left_since moment told files → AfterStop world commands start.told told files
  pub before : (told : List ℕ) (files : Files) → now.left_since start.clock told files
      → now.left_since moment told files ⊎ ((told ≡ start.told) × start.may_leave files)
  pub settled : (files : Files) → now.may_leave files → AfterStop world commands start.told now.told files

-- all commands were carried out and their replies told, and the files keep what is known behind them; this was reached before them
pub record Finished (now : Disk) (world : World) (reached : Reached) (commands : List Command) (before : List ℕ) : Type 0 where
  pub told : now.told ≡ before ++ replies_from world commands
  pub kept : Keeps now.files (final world commands).kept
  -- the live pages have the format that the commands lead to
  pub format : HasFormat now.files (final world commands).kept (reached_from world reached commands).format
  -- of a batch that is pending then the pages of the moves made stand on the side that is not live
  pub moved : HasMovedTo now.files (final world commands) (reached_from world reached commands).made

-- a run over this script, of which so much is left in the source, from this world
pub record Headline (world : World) (script left : List ℕ) (start now : Disk) (status : Status) : Type 0 where
  -- the told bytes are a front of the replies
  pub prefix : TellsFront (replies world script) start.told now.told
  -- at Done all replies were told, the files as read keep the last world, and the script was read to its end
  pub whole : status ≡ Done → FromFormat start.files world.kept (λ reached. Finished now world reached (commands script) start.told)
  pub read : status ≡ Done → left ≡ []
  -- a stop at any moment leaves a front of the replies, and files that keep what is acknowledged
  pub any_stop : LeavesOnly start now (AfterRun world (commands script) start)
  -- and nothing of what a stop before the run might have left, from the moment on at which the files were opened
  pub opened : HasOpened script left status → Opened start now world (commands script)

-- A run that passed its limit: the commands that are whole in the bytes before the pull that passed it were carried out, and of
-- that pull no byte was looked at. A pull gives at most 65,536 bytes.
pub record LeftOff (now : Disk) (world : World) (reached : Reached) (script : List ℕ) (limit : ℕ) (before : List ℕ) : Type 0 where
  pub looked_at : ℕ
  pub within : looked_at ≤ limit
  pub last_pull : limit < looked_at + 65536
  pub finished : Finished now world reached (whole (take looked_at script)) before

-- A run whose source failed: the commands that are whole in the bytes that it gave were carried out, and their replies told.
pub record CutOff (now : Disk) (world : World) (reached : Reached) (script left before : List ℕ) : Type 0 where
  pub given : List ℕ
  pub cut : script ≡ given ++ left
  pub finished : Finished now world reached (whole given) before

-- a run that ended short of its script: past its limit, or where its source failed
pub record StopsShort (IsEnd : Status → Type 0) (now : Disk) (world : World) (reached : Reached) (script left : List ℕ) (limit : ℕ) (before : List ℕ) : Type 0 where
  pub left_off : IsEnd TooLong → LeftOff now world reached script limit before
  pub cut_off : IsEnd Input → CutOff now world reached script left before
