-- What commands that fold the rows of a slice reply, and the damage that they report, for any files.
use Rattle.std.specs.Prelude.{◌≡◌, ◌⊎◌, ◌+◌, ◌%◌, ℕ, Bool, true, false, List, [], Option, Some, None, Result, Ok, Err}
use Rattle.site_core.specs.Disk.{Files}
use Rattle.fact_model.specs.Adds.{AddUp}
use Rattle.fact_model.specs.declared.slice.Row.{Row}
use Rattle.fact_model.specs.declared.slice.Slice.{Slice}
use Rattle.forest_root.specs.declared.forest.Store.{Store}
use Rattle.replica_route.specs.Picked.{IsPicked}
use Rattle.reply_text.specs.Replies.{answer_text, line, query_text, slice_text, no_schema, not_covered}
use Rattle.cube_schema.specs.Kinds.{arity}
use Rattle.roll_up.specs.Levels.{extended}
use Rattle.roll_up.specs.Lifted.{rolled_up}
use Rattle.roll_up.specs.declared.level.Level.{Level}
use Rattle.slice_lang.specs.Reading.{slice_of}
use Rattle.slice_lang.specs.declared.refusal.SliceRefusal.{SliceRefusal}
use Rattle.script_lang.specs.declared.command.Command.{Command}
use Rattle.slice_exec.specs.Answers.{IsJudged}
use Rattle.slice_exec.specs.declared.stop.AnswerStop.TheVariants as answers
use Rattle.sql_lang.specs.Reading.{query_of}
use Rattle.sql_lang.specs.declared.query.Query.{Query}
use Rattle.sql_lang.specs.declared.refusal.SqlRefusal.{SqlRefusal}
use Rattle.sql_slice.specs.Plans.{plan_of}
use Rattle.sql_slice.specs.RowFold.{query_text as records_text}
use Rattle.sql_slice.specs.declared.planned.Plan.{Plan}
use Rattle.spec_machine.specs.Machine.{asked_by, base_slice, is_covered}
use Rattle.cube_state.specs.declared.stop.Stop.{Stop}
use Rattle.cube_state.specs.declared.stop.Stop.TheVariants as stops
use Rattle.cube_state.specs.Session.{IsLine}
use Rattle.cube_state.specs.Slices.{AreRowsIn}
use Rattle.cube_state.specs.Stops.{IsNoDamage}

-- ---- damage

-- the rows of the view in these files do not add up; the place reported is offset 0 of the live side
pub record IsHeavyAt (store : Store) (s : Slice) (view : ℕ) (files : Files) (file offset : ℕ) : Type 0 where
  pub rows : List Row
  pub found : IsJudged store s view files (Ok rows)
  pub heavy : AddUp rows → ⊥
  pub side : file ≡ 2 + store.forest.body.generation % 2
  pub front : offset ≡ 0

-- in these files the slice's answer is damage at this place, or its rows do not add up; without a slice there is no damage
abbrev pub IsSpoiltFold : Store → Files → Option Slice → ℕ → ℕ → Type 0
IsSpoiltFold store files None file offset = ⊥
IsSpoiltFold store files (Some s) file offset =
    (view : ℕ) → IsPicked store.forest.schema.views store.forest.body.counts s view → IsJudged store s view files (Err (answers.Damaged file offset)) ⊎ IsHeavyAt store s view files file offset

-- damage that is reported exists
abbrev pub TellsFold : Store → Files → Option Slice → Stop → Type 0
TellsFold store files asked (stops.Damaged file offset) = IsSpoiltFold store files asked file offset
TellsFold store files asked stops.Disk = Unit {0}
TellsFold store files asked stops.Output = Unit {0}
TellsFold store files asked stops.Memory = Unit {0}

-- the same for the slice that a command answers; without a schema no damage is reported
abbrev pub FoldTells : List Level → Option Store → Files → Command → Stop → Type 0
FoldTells levels None files command stop = IsNoDamage stop
FoldTells levels (Some store) files command stop = TellsFold store files (asked_by store.forest.schema levels command) stop

-- ---- the reply to a query

-- the rows that are folded: none if no fact can pass the tests, and otherwise those of the slice in these files, which add up
abbrev pub AreFolded : Bool → Store → Files → Slice → List Row → Type 0
AreFolded true store files s rows = rows ≡ []
AreFolded false store files s rows = AreRowsIn store files s rows × AddUp rows

-- rows to fold are found if some view covers the slice, and nothing is if no view does
abbrev pub FindsFor : Store → Files → Plan → Option (List Row) → Type 0
FindsFor store files p (Some rows) = (is_covered store.forest.schema p.slice ≡ true) × AreFolded p.empty store files p.slice rows
FindsFor store files p None = is_covered store.forest.schema p.slice ≡ false

-- the text of what was found
abbrev pub records_found : Query → Plan → Option (List Row) → List ℕ
records_found q p (Some rows) = records_text q p rows
records_found q p None = line not_covered

-- the reply to a query that was read, or to a text that is not a query
abbrev pub GivesQuery : Store → Files → Result Query SqlRefusal → List ℕ → Type 0
GivesQuery store files (Err refusal) reply = reply ≡ query_text refusal
GivesQuery store files (Ok q) reply =
    (found : Option (List Row)) × FindsFor store files (plan_of store.forest.schema q) found × (reply ≡ records_found q (plan_of store.forest.schema q) found)

-- the reply to the text of a query, in a session with this store
abbrev pub QueryGives : Option Store → Files → List ℕ → List ℕ → Type 0
QueryGives None files text reply = IsLine no_schema reply
QueryGives (Some store) files text reply = GivesQuery store files (query_of store.forest.schema text) reply

-- ---- the reply to a roll-up

-- the rows of the base slice in these files, which add up; none if no view covers it
abbrev pub FindsBase : Store → Files → Slice → Option (List Row) → Type 0
FindsBase store files s (Some rows) = (is_covered store.forest.schema s ≡ true) × AreRowsIn store files s rows × AddUp rows
FindsBase store files s None = is_covered store.forest.schema s ≡ false

-- the text of what was found, after roll-up
abbrev pub rolled_found : Store → List Level → Slice → Option (List Row) → List ℕ
rolled_found store levels s (Some rows) = answer_text (rolled_up (arity store.forest.schema) levels s rows)
rolled_found store levels s None = line not_covered

-- the reply to a slice that was read, or to a text that is not a slice
abbrev pub GivesRolled : List Level → Store → Files → Result Slice SliceRefusal → List ℕ → Type 0
GivesRolled levels store files (Err refusal) reply = reply ≡ slice_text refusal
GivesRolled levels store files (Ok s) reply =
    (found : Option (List Row)) × FindsBase store files (base_slice store.forest.schema levels s) found × (reply ≡ rolled_found store levels s found)

-- the reply to the text of a roll-up, in a session with this store and these levels
abbrev pub RollupGives : List Level → Option Store → Files → List ℕ → List ℕ → Type 0
RollupGives levels None files text reply = IsLine no_schema reply
RollupGives levels (Some store) files text reply = GivesRolled levels store files (slice_of (extended store.forest.schema levels) text) reply
