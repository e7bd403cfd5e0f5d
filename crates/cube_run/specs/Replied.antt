-- That each command of a list was replied to by one session, whatever the files hold.
use Rattle.std.specs.Prelude.{◌≡◌, ℕ, ◌<◌, List, [], ◌∷◌, ◌++◌, length, Option, Some}
use Rattle.site_core.specs.Disk.{Disk, Files}
use Rattle.script_lang.specs.declared.command.Command.{Command}
use Rattle.spec_machine.specs.Machine.{levels_behind}
use Rattle.cube_state.specs.Carried.{LeavesState, MayWrite}
use Rattle.cube_state.specs.Commands.{Gives}
use Rattle.cube_state.specs.Visits.{schema_of}
use Rattle.cube_session.specs.Session.{HasOpened}
use Rattle.cube_session.specs.declared.held.Held.{Held}

-- what a session has after a command: a level that is not refused is one of its levels, and it has another state only where the command writes or
-- drops the pending batch
pub record GoesOver (command : Command) (before after : Held) : Type 0 where
  pub levels : after.levels ≡ levels_behind (schema_of before.state) before.levels command
  pub state : LeavesState command → after.state ≡ before.state

-- The first bytes are a reply to the command: one that a session with this gives over these files. A command that writes nothing leaves the files. The
-- other bytes are replies to the others, by what the session has then.
pub record RepliesFirst (command : Command) (others : Held → List ℕ → Files → Type 0) (held : Held) (files : Files) (told : List ℕ) : Type 0 where
  pub reply : List ℕ
  pub more : List ℕ
  pub tells : told ≡ reply ++ more
  pub some : 0 < length reply
  pub right : Gives held.levels held.state files command reply
  pub has : Held
  pub goes : GoesOver command held has
  pub next : Files
  pub leaves : (MayWrite command → ⊥) → next ≡ files
  pub rest : others has more next

-- From the first files to the last, and from what the session had to what it has, each command has a reply of its own among these bytes, of at least one
-- byte, in order, with nothing between them or after: one that the session gives by what it has then, over the files as they are then.
abbrev pub Replied : List Command → Held → Files → List ℕ → Held → Files → Type 0
Replied [] held files told has last = (told ≡ []) × (has ≡ held) × (last ≡ files)
Replied (command ∷ rest) held files told has last = RepliesFirst command (λ then more next. Replied rest then next more has last) held files told

-- after what was told before stand replies to these commands by a session that had this and has that, and nothing else
pub record HasReplied (commands : List Command) (had has : Option Held) (before now : Disk) : Type 0 where
  pub first : Held
  pub begins : had ≡ Some first
  pub last : Held
  pub ends : has ≡ Some last
  pub replies : List ℕ
  pub told : now.told ≡ before.told ++ replies
  pub each : Replied commands first before.files replies last now.files

-- the same, whatever it has then
pub record RepliesToAll (commands : List Command) (had : Option Held) (before now : Disk) : Type 0 where
  pub has : Option Held
  pub replied : HasReplied commands had has before now

-- the same of a session that began with what opening the files finds
pub record RepliesFromStart (commands : List Command) (before now : Disk) : Type 0 where
  pub had : Option Held
  pub opened : HasOpened before.files had
  pub replied : RepliesToAll commands had before now
