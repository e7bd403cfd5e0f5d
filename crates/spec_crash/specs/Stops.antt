-- What a stop among commands may leave: which bytes are printed, and what the files keep.
use Rattle.std.specs.Prelude.{◌≡◌, ◌⊎◌, ℕ, ◌+◌, ◌≤◌, List, ◌++◌, length, Some, slice_get}
use Rattle.site_core.specs.Disk.{Files}
use Rattle.script_lang.specs.Script.{commands}
use Rattle.script_lang.specs.declared.command.Command.{Command}
use Rattle.spec_machine.specs.World.{Kept, World, bare}
use Rattle.spec_machine.specs.Machine.{act}
use Rattle.spec_machine.specs.Stages.{acked, final, replies_from, stages}
use Rattle.spec_machine.specs.Histories.{IsEachOnce, IsHistory, Run, accepted_in, with_run}
use Rattle.spec_crash.specs.Keeps.{Keeps}

-- A stop leaves a front of the replies, and files that keep a stage: one with all that is acknowledged, and at most one ahead.
pub record AfterStop (world : World) (commands : List Command) (before told : List ℕ) (files : Files) : Type 0 where
  pub front : List ℕ
  pub rest : List ℕ
  pub tells : told ≡ before ++ front
  pub prefix : replies_from world commands ≡ front ++ rest
  pub stage : ℕ
  pub state : Kept
  pub there : slice_get (stages world commands) stage ≡ Some state
  pub kept : Keeps files state
  pub acknowledged : acked world commands (length front) ≤ stage
  pub not_ahead : stage ≤ acked world commands (length front) + 1

-- A stop within one command leaves a front of its reply, and files that keep the world before or after the command: the
-- world after it, if the whole reply was printed.
pub record Meanwhile (world : World) (command : Command) (before told : List ℕ) (files : Files) : Type 0 where
  pub front : List ℕ
  pub rest : List ℕ
  pub tells : told ≡ before ++ front
  pub prefix : (act world command).1 ≡ front ++ rest
  pub kept : Keeps files world.kept ⊎ Keeps files (act world command).0.kept
  pub acknowledged : front ≡ (act world command).1 → Keeps files (act world command).0.kept

-- Some of these commands are carried out, and the rest are left. If what a stop leaves is right from here on, it is right from the start.
pub record Carried (world : World) (commands : List Command) (before : List ℕ) (now : World) (rest : List Command) (told : List ℕ) : Type 0 where
  pub front : List ℕ
  pub tells : told ≡ before ++ front
  pub replies : replies_from world commands ≡ front ++ replies_from now rest
  pub final : final world commands ≡ final now rest
  pub onto : (t : List ℕ) (files : Files) → AfterStop now rest told t files → AfterStop world commands before t files

-- What a stop in a run over this script leaves, from this state, once these bytes are printed: each history that ended in this state
-- continues with the run to what the files keep, and in that history each numbered batch is accepted once. What was acknowledged is in it.
pub record GoesOnOnce (kept : Kept) (script before told : List ℕ) (files : Files) : Type 0 where
  pub run : Run
  pub over : run.script ≡ script
  pub keeps : Keeps files run.kept
  -- the bytes printed are a front of the replies, and the stage is the one that they acknowledge, or the next one
  pub front : List ℕ
  pub tells : told ≡ before ++ front
  pub acknowledged : acked (bare kept) (commands script) (length front) ≤ run.stage
  pub not_ahead : run.stage ≤ acked (bare kept) (commands script) (length front) + 1
  pub goes_on : (first : Kept) (runs : List Run) → IsHistory first runs kept → IsHistory first (with_run runs run) run.kept
  pub each_once : (first : Kept) (runs : List Run) → IsHistory first runs kept → IsEachOnce first run.kept (accepted_in first (with_run runs run))
