-- What the commands for batches reply, for any files. Damage is not a reply.
use Rattle.std.specs.Prelude.{◌≡◌, ◌⊎◌, ◌<◌, ℕ, List, [], ◌∷◌, Option, Some, None, Ok, Err}
use Rattle.site_core.specs.Disk.{Files}
use Rattle.attr_dict.specs.Admitting.{names_with}
use Rattle.cube_schema.specs.declared.schema.Schema.{Schema}
use Rattle.cube_schema.specs.Kinds.{name_at, measure_name_at}
use Rattle.fact_model.specs.declared.fact.Fact.{Fact}
use Rattle.forest_root.specs.declared.forest.Store.{Store}
use Rattle.forest_refresh.specs.Begun.{Begun}
use Rattle.forest_refresh.specs.Trees.{AreAllWhole, deltas_by}
use Rattle.forest_refresh.specs.declared.stop.BeginStop.{BeginStop}
use Rattle.forest_refresh.specs.declared.stop.BeginStop.TheVariants as begins
use Rattle.page_fmt.specs.Formats.{wide_format}
use Rattle.reply_text.specs.Replies.{line, committed_text, full_text, mass_text, no_schema, is_pending, none_pending, too_many_facts, begun_text, upgraded_text}
use Rattle.script_lang.specs.declared.command.Block.{Block}
use Rattle.spec_machine.specs.declared.batch_source.BatchSource.{BatchSource}
use Rattle.spec_machine.specs.declared.batch_source.BatchSource.TheVariants.{Rows}
use Rattle.spec_machine.specs.Machine.{Given, batch_from}
use Rattle.cube_state.specs.declared.state.State.{State}
use Rattle.cube_state.specs.declared.state.State.TheVariants.{Empty, Idle, Hollow, Pending}
use Rattle.cube_state.specs.Session.{IsLine}

-- what a source gives to a store
abbrev pub given_to : Store → BatchSource → Given
given_to store source = batch_from store.forest.schema store.forest.body.last source

-- ---- limits

-- the refusal, if a limit is the reason that a batch has not begun
abbrev pub refusal_text : Schema → BeginStop → Option (List ℕ)
refusal_text schema begins.FactsFull = Some (line too_many_facts)
refusal_text schema (begins.NamesFull a) = Some (full_text (name_at schema a))
refusal_text schema (begins.Mass m) = Some (mass_text (measure_name_at schema m))
refusal_text schema begins.Memory = None
refusal_text schema begins.Disk = None

-- the reply is a refusal by a limit
abbrev pub IsRefused : Store → List ℕ → Type 0
IsRefused store reply = (why : BeginStop) × (refusal_text store.forest.schema why ≡ Some reply)

-- ---- load and generate

-- the batch is acknowledged, and all trees in these files are whole for its points
pub record IsTakenIn (store : Store) (files : Files) (batch : List Fact) (reply : List ℕ) : Type 0 where
  pub whole : AreAllWhole store.forest files (deltas_by (names_with store.dicts batch) store.forest.schema batch)
  pub count : ℕ
  pub said : reply ≡ committed_text count

-- an empty batch is acknowledged; any other is refused or taken in
abbrev pub GivesBatch : Store → Files → List Fact → List ℕ → Type 0
GivesBatch store files [] reply = reply ≡ committed_text store.forest.body.facts
GivesBatch store files (x ∷ xs) reply = IsRefused store reply ⊎ IsTakenIn store files (x ∷ xs) reply

-- the reply to a batch that was read or made, or to a source that gave none
abbrev pub GivesGiven : Store → Files → Given → List ℕ → Type 0
GivesGiven store files (Err text) reply = reply ≡ text
GivesGiven store files (Ok given) reply = GivesBatch store files given.0 reply

abbrev pub LoadGives : State → Files → BatchSource → List ℕ → Type 0
LoadGives Empty files source reply = IsLine no_schema reply
LoadGives (Idle store) files source reply = GivesGiven store files (given_to store source) reply
LoadGives (Hollow store) files source reply = IsLine is_pending reply
LoadGives (Pending refresh) files source reply = IsLine is_pending reply

-- ---- begin

-- a batch that was read is refused, or it begins
abbrev pub GivesBegun : Store → Given → List ℕ → Type 0
GivesBegun store (Err text) reply = reply ≡ text
GivesBegun store (Ok given) reply = IsRefused store reply ⊎ IsLine begun_text reply

abbrev pub BeginGives : State → Block → List ℕ → Type 0
BeginGives Empty block reply = IsLine no_schema reply
BeginGives (Idle store) block reply = GivesBegun store (given_to store (Rows block)) reply
BeginGives (Hollow store) block reply = IsLine is_pending reply
BeginGives (Pending refresh) block reply = IsLine is_pending reply

-- ---- step, finish and abandon

-- the reply if no batch is pending, or this text if one is
abbrev pub pending_line : State → List ℕ → List ℕ
pending_line Empty text = line none_pending
pending_line (Idle store) text = line none_pending
pending_line (Hollow store) text = line text
pending_line (Pending refresh) text = line text

-- a refresh is acknowledged with this text and the number of facts, and all trees in these files are whole for its points
pub record IsEnded (text : ℕ → List ℕ) (refresh : Begun) (files : Files) (reply : List ℕ) : Type 0 where
  pub whole : AreAllWhole refresh.store.forest files refresh.deltas
  pub said : reply ≡ text refresh.next.facts

-- its batch is acknowledged
abbrev pub IsFinished : Begun → Files → List ℕ → Type 0
IsFinished refresh files reply = IsEnded committed_text refresh files reply

-- the reply to `finish`
abbrev pub FinishGives : State → Files → List ℕ → Type 0
FinishGives Empty files reply = IsLine none_pending reply
FinishGives (Idle store) files reply = IsLine none_pending reply
FinishGives (Hollow store) files reply = reply ≡ committed_text store.forest.body.facts
FinishGives (Pending refresh) files reply = IsFinished refresh files reply

-- ---- upgrade

-- if pages of an earlier format were rewritten, all trees in these files are whole
pub record IsUpgraded (store : Store) (files : Files) (reply : List ℕ) : Type 0 where
  pub whole : store.forest.body.format < wide_format → AreAllWhole store.forest files (deltas_by (names_with store.dicts []) store.forest.schema [])
  pub said : IsLine upgraded_text reply

abbrev pub UpgradeGives : State → Files → List ℕ → Type 0
UpgradeGives Empty files reply = IsLine no_schema reply
UpgradeGives (Idle store) files reply = IsUpgraded store files reply
UpgradeGives (Hollow store) files reply = IsLine is_pending reply
UpgradeGives (Pending refresh) files reply = IsLine is_pending reply
