-- The contracts of the parts of the commands.
use Rattle.std.specs.Prelude.{◌≡◌, ◌⊎◌, ◌+◌, ◌%◌, ℕ, cond, List, Option, Some, None, Result, Ok, Err, IfOk, MatchResult}
use Rattle.std.specs.List.{All}
use Rattle.cube_schema.specs.Kinds.{arity}
use Rattle.fact_model.specs.Adds.{AddUp}
use Rattle.fact_model.specs.declared.slice.Row.{Row}
use Rattle.fact_model.specs.declared.slice.Slice.{Slice}
use Rattle.forest_root.specs.declared.forest.Store.{Store}
use Rattle.page_cache.specs.Giving.{Cache}
use Rattle.reply_text.specs.Replies.{line, answer_text, not_covered}
use Rattle.roll_up.specs.Lifted.{HasForm, rolled_up}
use Rattle.roll_up.specs.declared.level.Level.{Level}
use Rattle.script_lang.specs.declared.command.Command.{Command}
use Rattle.site_core.specs.declared.site.Site.{Ghosts}
use Rattle.slice_exec.specs.declared.stop.AnswerStop.{AnswerStop}
use Rattle.slice_exec.specs.declared.stop.AnswerStop.TheVariants as answers
use Rattle.sql_slice.specs.RowFold.{IsWide}
use Rattle.sql_slice.specs.declared.planned.Plan.{Plan}
use Rattle.spec_machine.specs.Machine.{is_covered}
use Rattle.cube_state.specs.Carried.{CarriesOut, CarriesOutWith, IsReadyFor, Reply}
use Rattle.cube_state.specs.Visits.{store_of}
use Rattle.cube_state.specs.declared.state.State.{State}
use Rattle.cube_state.specs.declared.stop.Stop.{Stop}
use Rattle.cube_state.specs.declared.stop.Stop.TheVariants as stops

-- the command is carried out by a session with this store
abbrev pub CarriesOutAs : {S : Type 0} (T : Ghosts S) (command : Command) (store : Store) (old new : S) (before after : Cache) (result : Reply) → Type 0
CarriesOutAs T command store old new before after result =
    (state : State) → store_of state ≡ Some store → IsReadyFor T old before state → CarriesOut T command state state old new before after result

-- ---- slice

-- the reply to an answer, if it has one: its rows, or that no view covers the slice
abbrev pub answer_reply : Result (List Row) AnswerStop → Option (List ℕ)
answer_reply (Ok rows) = Some (answer_text rows)
answer_reply (Err answers.NotCovered) = Some (line not_covered)
answer_reply (Err answers.Disk) = None
answer_reply (Err (answers.Damaged file offset)) = None
answer_reply (Err answers.Memory) = None

-- why a command with this answer stops: out of memory, if the answer has a reply
abbrev pub answer_stop : Result (List Row) AnswerStop → Stop
answer_stop (Ok rows) = stops.Memory
answer_stop (Err answers.NotCovered) = stops.Memory
answer_stop (Err answers.Disk) = stops.Disk
answer_stop (Err (answers.Damaged file offset)) = stops.Damaged file offset
answer_stop (Err answers.Memory) = stops.Memory

-- the result is the reply, or the stop
abbrev pub Tells : Result (List Row) AnswerStop → Reply → Type 0
Tells answer result = MatchResult result (λ reply. answer_reply answer ≡ Some reply.items) (λ stop. stop ≡ answer_stop answer)

-- ---- commands that fold the rows of a slice

-- rows that add up give this text; other rows are not rows of facts, and the damage is reported at offset 0 of the live side
abbrev pub RowsTell : Store → List Row → List ℕ → Reply → Type 0
RowsTell store rows text (Ok reply) = AddUp rows × (reply.items ≡ text)
RowsTell store rows text (Err stop) = (stop ≡ stops.Memory) ⊎ ((AddUp rows → ⊥) × (stop ≡ stops.Damaged (2 + store.forest.body.generation % 2) 0))

-- the result is the text made from the rows, that no view covers the slice, or why the command stops
abbrev pub FoldTold : Store → (List Row → List ℕ) → Result (List Row) AnswerStop → Reply → Type 0
FoldTold store text (Ok rows) result = RowsTell store rows (text rows) result
FoldTold store text (Err stop) result = Tells (Err stop) result

-- ---- rollup

-- with these levels, the command is carried out by a session with this store
abbrev pub CarriesOutOver : {S : Type 0} (T : Ghosts S) (levels : List Level) (command : Command) (store : Store) (old new : S) (before after : Cache) (result : Reply) → Type 0
CarriesOutOver T levels command store old new before after result =
    (state : State) → store_of state ≡ Some store → IsReadyFor T old before state → CarriesOutWith T levels command state state old new before after result

-- each row has a value for each grouped attribute of the base slice, and a number for each column
abbrev pub AreBase : Slice → Result (List Row) AnswerStop → Type 0
AreBase b answer = IfOk answer (All (HasForm b))

-- the text of base rows after roll-up
abbrev pub rolled_text : Store → List Level → Slice → List Row → List ℕ
rolled_text store levels s rows = answer_text (rolled_up (arity store.forest.schema) levels s rows)

-- ---- sql

-- each row has a number for each column of the plan
abbrev pub AreWide : Plan → Result (List Row) AnswerStop → Type 0
AreWide p answer = IfOk answer (All (IsWide p.slice.columns))

-- this text, if some view covers the slice
abbrev pub where_covered : Store → Slice → List ℕ → List ℕ
where_covered store s text = cond (is_covered store.forest.schema s) text (line not_covered)
