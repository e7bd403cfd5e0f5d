-- What a slice replies, and the damage that it reports, for any files.
use Rattle.std.specs.Prelude.{◌≡◌, ℕ, true, false, List, Option, Some, None, Result, Ok, Err}
use Rattle.site_core.specs.Disk.{Files}
use Rattle.fact_model.specs.declared.slice.Row.{Row}
use Rattle.fact_model.specs.declared.slice.Slice.{Slice}
use Rattle.forest_root.specs.declared.forest.Store.{Store}
use Rattle.reply_text.specs.Replies.{line, answer_text, slice_text, no_schema, not_covered}
use Rattle.roll_up.specs.declared.level.Level.{Level}
use Rattle.script_lang.specs.declared.command.Command.{Command}
use Rattle.slice_exec.specs.Answers.{IsJudged}
use Rattle.slice_exec.specs.declared.stop.AnswerStop.TheVariants as answers
use Rattle.slice_lang.specs.declared.refusal.SliceRefusal.{SliceRefusal}
use Rattle.slice_lang.specs.Reading.{slice_of}
use Rattle.replica_route.specs.Picked.{IsPicked}
use Rattle.spec_machine.specs.Machine.{asked_by, explain_reply, is_covered}
use Rattle.cube_state.specs.declared.stop.Stop.{Stop}
use Rattle.cube_state.specs.declared.stop.Stop.TheVariants as stops
use Rattle.cube_state.specs.Session.{IsLine}
use Rattle.cube_state.specs.Stops.{IsNoDamage}

-- ---- the reply

-- these are the rows of the picked view in these files; each page visited is sound
abbrev pub AreRowsIn : Store → Files → Slice → List Row → Type 0
AreRowsIn store files s rows = (view : ℕ) → IsPicked store.forest.schema.views store.forest.body.counts s view → IsJudged store s view files (Ok rows)

-- rows are found if some view covers the slice, and none are if no view does
abbrev pub Finds : Store → Files → Slice → Option (List Row) → Type 0
Finds store files s (Some rows) = (is_covered store.forest.schema s ≡ true) × AreRowsIn store files s rows
Finds store files s None = is_covered store.forest.schema s ≡ false

-- the text of what was found
abbrev pub found_text : Option (List Row) → List ℕ
found_text (Some rows) = answer_text rows
found_text None = line not_covered

-- the reply to a slice is the text of what was found
abbrev pub GivesFound : Store → Files → Slice → List ℕ → Type 0
GivesFound store files s reply = (found : Option (List Row)) × Finds store files s found × (reply ≡ found_text found)

-- the reply to a slice that was read, or to a text that is not a slice
abbrev pub GivesRead : Store → Files → Result Slice SliceRefusal → List ℕ → Type 0
GivesRead store files (Err refusal) reply = reply ≡ slice_text refusal
GivesRead store files (Ok s) reply = GivesFound store files s reply

-- the reply to the text of a slice, in a session with this store
abbrev pub SliceGives : Option Store → Files → List ℕ → List ℕ → Type 0
SliceGives None files text reply = IsLine no_schema reply
SliceGives (Some store) files text reply = GivesRead store files (slice_of store.forest.schema text) reply

-- the reply to `explain`, in a session with this store, by the numbers of points in its body
abbrev pub explain_text : Option Store → List ℕ → List ℕ
explain_text None text = line no_schema
explain_text (Some store) text = explain_reply store.forest.schema store.forest.body.counts (slice_of store.forest.schema text)

-- ---- damage

-- in these files the slice's answer is damage at this place; without a slice there is none
abbrev pub IsSpoiltAt : Store → Files → Option Slice → ℕ → ℕ → Type 0
IsSpoiltAt store files None file offset = ⊥
IsSpoiltAt store files (Some s) file offset =
    (view : ℕ) → IsPicked store.forest.schema.views store.forest.body.counts s view → IsJudged store s view files (Err (answers.Damaged file offset))

-- damage that is reported exists
abbrev pub TellsSpoilt : Store → Files → Option Slice → Stop → Type 0
TellsSpoilt store files asked (stops.Damaged file offset) = IsSpoiltAt store files asked file offset
TellsSpoilt store files asked stops.Disk = Unit {0}
TellsSpoilt store files asked stops.Output = Unit {0}
TellsSpoilt store files asked stops.Memory = Unit {0}

-- the same for the slice that a command answers; without a schema no damage is reported
abbrev pub SliceTells : List Level → Option Store → Files → Command → Stop → Type 0
SliceTells levels None files command stop = IsNoDamage stop
SliceTells levels (Some store) files command stop = TellsSpoilt store files (asked_by store.forest.schema levels command) stop
