-- The moves of a pending batch, and the pages that they write.
use Rattle.std.specs.Prelude.{◌≡◌, ◌+◌, ◌-◌, ◌*◌, ◌++◌, ℕ, cond, List, [], ◌∷◌, length, min, nat_le, take, Option, Some, None}
use Rattle.site_core.specs.Disk.{Files}
use Rattle.fact_model.specs.declared.fact.Fact.{Fact}
use Rattle.spec_tree.specs.Moves.{Move, written}
use Rattle.page_fmt.specs.Formats.{wide_format}
use Rattle.spec_moves.specs.Forest.{bytes_after, forest_moves}
use Rattle.forest_root.specs.Live.{IsLiveBody}
use Rattle.forest_root.specs.declared.body.Body.{Body}
use Rattle.forest_refresh.specs.Begun.{next_side}
use Rattle.spec_store.specs.Held.{format_for}
use Rattle.script_lang.specs.declared.command.Command.{Command}
use Rattle.script_lang.specs.declared.command.Command.TheVariants as says
use Rattle.spec_machine.specs.Histories.{Batch, batch_by}
use Rattle.spec_machine.specs.Machine.{act}
use Rattle.spec_crash.specs.Keeps.{HasFormat, IsFrom}
use Rattle.spec_machine.specs.Stages.{makes_stage}
use Rattle.spec_machine.specs.World.{Kept, Warehouse, World}
use Rattle.cube_state.specs.Cached.{live_of}
use Rattle.cube_state.specs.declared.state.State.{State}
use Rattle.cube_state.specs.declared.state.State.TheVariants.{Empty, Idle, Hollow, Pending}

-- what a session has reached: the format of the live pages, and how many moves of the pending batch are made
pub record Reached : Type 0 where
  pub format : ℕ
  pub made : ℕ

-- before any move, with live pages of this format
abbrev pub unmoved : ℕ → Reached
unmoved format = record { format = format; made = 0 }

-- the moves of a batch into pages of the format that its numbers need
abbrev pub batch_moves : ℕ → Warehouse → List Fact → List Move
batch_moves format warehouse batch = forest_moves format (format_for format batch) warehouse.schema warehouse.facts batch

-- all moves of the batch, if the live pages have this format; an empty batch has none
abbrev pub moves_over : ℕ → Kept → Option (List Fact) → List Move
moves_over format None pending = []
moves_over format (Some warehouse) None = []
moves_over format (Some warehouse) (Some []) = []
moves_over format (Some warehouse) (Some (x ∷ xs)) = batch_moves format warehouse (x ∷ xs)

abbrev pub pending_moves : ℕ → World → List Move
pending_moves format world = moves_over format world.kept world.pending

-- the format of the live pages after a batch, if one is committed
abbrev pub format_with : ℕ → Option Batch → ℕ
format_with format None = format
format_with format (Some batch) = format_for format batch.facts

-- after a command that may commit one
abbrev pub format_behind : World → ℕ → Command → ℕ
format_behind world format command = cond (makes_stage world command) (format_with format (batch_by world command)) format

-- after an upgrade, which is refused without a schema and while a batch is pending
abbrev pub format_upgraded : Kept → Option (List Fact) → ℕ → ℕ
format_upgraded None pending format = format
format_upgraded (Some warehouse) (Some batch) format = format
format_upgraded (Some warehouse) None format = wide_format

-- What is reached after a command: `step n` makes n more moves, or all that are left; a commit and an upgrade may change the format. Files
-- without a schema count as format 1, in which a schema begins.
abbrev pub reached_behind : World → Reached → Command → Reached
reached_behind world reached (says.Schema block) = reached
reached_behind world reached (says.Load block) = record reached { format = format_behind world reached.format (says.Load block) }
reached_behind world reached (says.LoadNumbered number block) = record reached { format = format_behind world reached.format (says.LoadNumbered number block) }
reached_behind world reached (says.Generate start rows) = record reached { format = format_behind world reached.format (says.Generate start rows) }
reached_behind world reached (says.Begin block) = reached
reached_behind world reached (says.Step n) = record reached { made = min (reached.made + n) (length (pending_moves reached.format world)) }
reached_behind world reached says.Finish = unmoved (format_behind world reached.format says.Finish)
reached_behind world reached says.Abandon = unmoved reached.format
reached_behind world reached says.Upgrade = record reached { format = format_upgraded world.kept world.pending reached.format }
reached_behind world reached says.Audit = reached
reached_behind world reached (says.Slice text) = reached
reached_behind world reached (says.Explain text) = reached
reached_behind world reached (says.Sql text) = reached
reached_behind world reached (says.Level name attr block) = reached
reached_behind world reached (says.Rollup text) = reached
reached_behind world reached says.Status = reached
reached_behind world reached says.LongLine = reached
reached_behind world reached says.OpenBlock = reached
reached_behind world reached says.Unknown = reached

-- after a sequence of commands
abbrev pub reached_from : World → Reached → List Command → Reached
reached_from world reached [] = reached
reached_from world reached (command ∷ rest) = reached_from (act world command).0 (reached_behind world reached command) rest

-- the format reached after those commands whose whole reply is among the first `told` bytes
abbrev pub format_told : World → Reached → List Command → ℕ → ℕ
format_told world reached [] told = reached.format
format_told world reached (command ∷ rest) told =
    cond (nat_le (length (act world command).1) told) (format_told (act world command).0 (reached_behind world reached command) rest (told - length (act world command).1)) reached.format

-- A stop leaves, after the output before the commands, a prefix of their replies, and no earlier format than these replies report: so after
-- `upgraded` it leaves the greatest.
pub record KeepsFormat (world : World) (reached : Reached) (commands : List Command) (before told : List ℕ) (files : Files) : Type 0 where
  pub front : List ℕ
  pub tells : told ≡ before ++ front
  pub from : IsFrom (format_told world reached commands (length front)) files

-- the format of the live pages; files without a schema count as format 1
abbrev pub format_in : Option Body → ℕ
format_in None = 1
format_in (Some live) = live.format

abbrev pub format_of : State → ℕ
format_of state = format_in (live_of state)

-- how many moves the session has made
abbrev pub moves_made : State → ℕ
moves_made Empty = 0
moves_made (Idle store) = 0
moves_made (Hollow store) = 0
moves_made (Pending refresh) = refresh.progress.taken

abbrev pub reached_by : State → Reached
reached_by state = record { format = format_of state; made = moves_made state }

-- this holds before any move, in the format of these files
pub record FromFormat (files : Files) (kept : Kept) (P : Reached → Type 0) : Type 0 where
  pub format : ℕ
  pub has : HasFormat files kept format
  pub holds : P (unmoved format)

-- the side that is not live begins with one page for each write among the moves made, as in the forest over all facts
pub record HasPages (files : Files) (warehouse : Warehouse) (batch : List Fact) (made : ℕ) : Type 0 where
  pub live : Body
  pub is_live : IsLiveBody live (files 0)
  pub pages : take (4096 * written made (batch_moves live.format warehouse batch)) (files (next_side live))
      ≡ bytes_after live.format (format_for live.format batch) warehouse.schema warehouse.facts batch made

abbrev pub HasPagesOver : Files → Kept → Option (List Fact) → ℕ → Type 0
HasPagesOver files None pending made = Unit {0}
HasPagesOver files (Some warehouse) None made = Unit {0}
HasPagesOver files (Some warehouse) (Some []) made = Unit {0}
HasPagesOver files (Some warehouse) (Some (x ∷ xs)) made = HasPages files warehouse (x ∷ xs) made

-- the pages of the pending batch's moves are written, if a batch is pending
abbrev pub HasMovedTo : Files → World → ℕ → Type 0
HasMovedTo files world made = HasPagesOver files world.kept world.pending made
