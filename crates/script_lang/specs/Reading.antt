-- A script that is being read, and the commands still to come.
use Rattle.std.specs.Prelude.{ℕ, ◌≤◌, Bool, true, false, cond, List, [], ◌++◌, ◌≡◌, length, take, drop, Option, None, option_to_list}
use Rattle.script_lang.specs.declared.command.Command.{Command}
use Rattle.script_lang.specs.Script.{lines_from, commands_in}
use Rattle.script_lang.specs.Place.{Place, IsShort}

pub record Reading : Type 0 where
  -- the script is at its end
  pub over : Bool
  -- the current place in the script
  pub place : Place
  -- the bytes that were fed but not read
  pub rest : List ℕ

-- the bytes of a buffer that were fed but not read, from `at` to `end`
abbrev pub unread_in : ℕ → ℕ → List ℕ → List ℕ
unread_in at end buffer = drop at (take end buffer)

-- a buffer with the positions `at` and `end`, and the current place
pub record IsReading (at end : ℕ) (buffer : List ℕ) (place : Place) : Type 0 where
  -- no more is read than was fed
  pub fed : at ≤ end
  -- no more was fed than the buffer holds
  pub within : end ≤ length buffer
  -- no more of the script is kept than a block may have
  pub short : IsShort place

abbrev pub nothing_read : Reading
nothing_read = record { over = false; place = record { block = None; line = [] }; rest = [] }

-- the reading after these bytes are fed
abbrev pub with_more : Reading → List ℕ → Reading
with_more reading piece = record { over = reading.over; place = reading.place; rest = reading.rest ++ piece }

-- the commands in these bytes from a place on, at the end of the script or not
abbrev pub commands_from : Bool → Place → List ℕ → List Command
commands_from over place bytes = commands_in over place.block (lines_from over place.line bytes)

-- both places give the same commands, for any bytes that follow
abbrev pub GoesOnAs : Place → Place → Type 0
GoesOnAs now place = (over : Bool) (bytes : List ℕ) → commands_from over now bytes ≡ commands_from over place bytes

-- the commands still to come, if these bytes are fed before the end
abbrev pub to_come : Reading → List ℕ → List Command
to_come reading more = commands_from true reading.place (reading.rest ++ cond reading.over [] more)

-- the commands not yet returned that are whole once these bytes are fed, for any bytes that follow
abbrev pub whole_with : Reading → List ℕ → List Command
whole_with reading more = commands_from false reading.place (reading.rest ++ more)

-- the commands that are whole now and not yet returned
abbrev pub ready : Reading → List Command
ready reading = commands_from reading.over reading.place reading.rest

-- the command, if there is one, is the first of those to come, for any bytes still fed
abbrev pub Gives : Reading → Reading → Option Command → Type 0
Gives old new command = (more : List ℕ) → to_come old more ≡ option_to_list command ++ to_come new more

-- the command, if there is one, is the first of those that are whole
abbrev pub IsFirstReady : Reading → Reading → Option Command → Type 0
IsFirstReady old new command = ready old ≡ option_to_list command ++ ready new

-- the command, if there is one, is the first of those that are whole, for any bytes still fed
abbrev pub IsFirstWhole : Reading → Reading → Option Command → Type 0
IsFirstWhole old new command = (more : List ℕ) → whole_with old more ≡ option_to_list command ++ whole_with new more

-- the same commands are still to come, for any bytes still fed
abbrev pub StillToCome : Reading → Reading → Type 0
StillToCome old new = (more : List ℕ) → to_come new more ≡ to_come old more

-- the same commands are whole when more bytes are fed
abbrev pub StillWhole : Reading → Reading → Type 0
StillWhole old new = (more : List ℕ) → whole_with new more ≡ whole_with old more

-- the same commands are whole
abbrev pub StillReady : Reading → Reading → Type 0
StillReady old new = ready new ≡ ready old
