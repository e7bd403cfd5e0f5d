-- Each command: what it costs, what it replies, and the damage that it reports.
use Rattle.std.specs.Prelude.{◌≡◌, ℕ, false, List, [], ◌∷◌, None, Option, Some}
use Rattle.reply_text.specs.Replies.{is_declared, long_line, open_block, is_unknown, stepped_text, abandoned_text}
use Rattle.site_core.specs.Disk.{Files}
use Rattle.fact_model.specs.declared.fact.Fact.{Fact}
use Rattle.roll_up.specs.declared.level.Level.{Level}
use Rattle.script_lang.specs.declared.command.Block.{Block}
use Rattle.script_lang.specs.declared.command.Command.{Command}
use Rattle.script_lang.specs.declared.command.Command.TheVariants as says
use Rattle.spec_machine.specs.declared.batch_source.BatchSource.{BatchSource}
use Rattle.spec_machine.specs.declared.batch_source.BatchSource.TheVariants.{Rows, Numbered, Generator}
use Rattle.spec_machine.specs.Machine.{act, asked_slice, declare}
use Rattle.spec_machine.specs.World.{World, bare}
use Rattle.cube_state.specs.declared.state.State.{State}
use Rattle.cube_state.specs.declared.state.State.TheVariants.{Empty, Idle, Hollow, Pending}
use Rattle.cube_state.specs.declared.stop.Stop.{Stop}
use Rattle.cube_state.specs.Audits.{AuditGives, audit_cost}
use Rattle.cube_state.specs.BatchCosts.{begin_cost, begins, finish_cost, load_cost, remakes, schema_cost, step_cost, upgrade_cost}
use Rattle.cube_state.specs.BatchDamage.{FinishTells, LoadTells, UpgradeTells}
use Rattle.cube_state.specs.Batches.{BeginGives, FinishGives, LoadGives, UpgradeGives, pending_line}
use Rattle.cube_state.specs.Costs.{Cost, both, free}
use Rattle.cube_state.specs.Moves.{Reached, reached_behind}
use Rattle.cube_state.specs.Session.{IsLine, state_text}
use Rattle.cube_state.specs.Folds.{FoldTells, QueryGives, RollupGives}
use Rattle.cube_state.specs.Levels.{leveled_by}
use Rattle.cube_state.specs.Slices.{SliceGives, SliceTells, explain_text}
use Rattle.cube_state.specs.Stops.{IsNoDamage}
use Rattle.cube_state.specs.Visits.{ReadsFor, store_of}

-- the command that sends the batch of a source at once
abbrev pub load_of : BatchSource → Command
load_of (Rows block) = says.Load block
load_of (Numbered number block) = says.LoadNumbered number block
load_of (Generator start rows) = says.Generate start rows

-- ---- costs

-- what a command costs after this was reached; a slice costs the pages it visits
abbrev pub Costs : World → Reached → Command → Cost → Type 0
Costs world reached (says.Slice text) cost = ReadsFor reached.format world (says.Slice text) cost
Costs world reached (says.Schema block) cost = cost ≡ schema_cost world (says.Schema block)
Costs world reached (says.Load block) cost = cost ≡ load_cost reached.format world (says.Load block)
Costs world reached (says.LoadNumbered number block) cost = cost ≡ load_cost reached.format world (says.LoadNumbered number block)
Costs world reached (says.Generate start rows) cost = cost ≡ load_cost reached.format world (says.Generate start rows)
Costs world reached (says.Begin block) cost = cost ≡ begin_cost world block
Costs world reached (says.Step n) cost = cost ≡ step_cost world reached n
Costs world reached says.Finish cost = cost ≡ finish_cost world reached
Costs world reached says.Abandon cost = cost ≡ free
Costs world reached says.Upgrade cost = cost ≡ upgrade_cost reached.format world
Costs world reached says.Audit cost = cost ≡ audit_cost reached.format world.kept
Costs world reached (says.Explain text) cost = cost ≡ free
Costs world reached (says.Sql text) cost = ReadsFor reached.format world (says.Sql text) cost
Costs world reached (says.Rollup text) cost = ReadsFor reached.format world (says.Rollup text) cost
Costs world reached (says.Level name attr block) cost = cost ≡ free
Costs world reached says.Status cost = cost ≡ free
Costs world reached says.LongLine cost = cost ≡ free
Costs world reached says.OpenBlock cost = cost ≡ free
Costs world reached says.Unknown cost = cost ≡ free

-- the cost of a sequence of commands
pub data CostTogether : World → Reached → List Command → Cost → Type 0 where
  none_cost : {world : World} {reached : Reached} → CostTogether world reached [] free
  one_costs : {world : World} {reached : Reached} {command : Command} {rest : List Command} (one others : Cost) → Costs world reached command one
      → CostTogether (act world command).0 (reached_behind world reached command) rest others → CostTogether world reached (command ∷ rest) (both one others)

-- no batch, or an empty one
abbrev pub HasNoFact : Option (List Fact) → Type 0
HasNoFact None = Unit {0}
HasNoFact (Some []) = Unit {0}
HasNoFact (Some (x ∷ xs)) = ⊥

-- Commands that make no call: a batch that is refused, empty or already accepted; a step or a finish without a pending fact; an upgrade that is
-- refused, or whose pages have the greatest format; and commands that only reply. A slice makes none if it is refused; an audit always makes one.
abbrev pub MakesNoCall : World → Reached → Command → Type 0
MakesNoCall world reached (says.Slice text) = asked_slice world (says.Slice text) ≡ None
MakesNoCall world reached (says.Schema block) = (act world (says.Schema block)).0.kept ≡ world.kept
MakesNoCall world reached (says.Load block) = (act world (says.Load block)).0.kept ≡ world.kept
MakesNoCall world reached (says.LoadNumbered number block) = (act world (says.LoadNumbered number block)).0.kept ≡ world.kept
MakesNoCall world reached (says.Generate start rows) = (act world (says.Generate start rows)).0.kept ≡ world.kept
MakesNoCall world reached (says.Begin block) = begins world block ≡ 0
MakesNoCall world reached (says.Step n) = HasNoFact world.pending
MakesNoCall world reached says.Finish = HasNoFact world.pending
MakesNoCall world reached says.Upgrade = remakes world reached.format ≡ false
MakesNoCall world reached says.Audit = ⊥
MakesNoCall world reached says.Abandon = Unit {0}
MakesNoCall world reached (says.Explain text) = Unit {0}
MakesNoCall world reached (says.Sql text) = asked_slice world (says.Sql text) ≡ None
MakesNoCall world reached (says.Rollup text) = asked_slice world (says.Rollup text) ≡ None
MakesNoCall world reached (says.Level name attr block) = Unit {0}
MakesNoCall world reached says.Status = Unit {0}
MakesNoCall world reached says.LongLine = Unit {0}
MakesNoCall world reached says.OpenBlock = Unit {0}
MakesNoCall world reached says.Unknown = Unit {0}

-- ---- replies, for any files

-- the reply when a schema is declared
abbrev pub SchemaGives : State → Block → List ℕ → Type 0
SchemaGives Empty block reply = reply ≡ (declare (bare None) block).1
SchemaGives (Idle store) block reply = IsLine is_declared reply
SchemaGives (Hollow store) block reply = IsLine is_declared reply
SchemaGives (Pending refresh) block reply = IsLine is_declared reply

-- a session in this state, with these levels and over these files, gives this reply to a command
abbrev pub Gives : List Level → State → Files → Command → List ℕ → Type 0
Gives levels state files (says.Schema block) reply = SchemaGives state block reply
Gives levels state files (says.Load block) reply = LoadGives state files (Rows block) reply
Gives levels state files (says.LoadNumbered number block) reply = LoadGives state files (Numbered number block) reply
Gives levels state files (says.Generate start rows) reply = LoadGives state files (Generator start rows) reply
Gives levels state files (says.Slice text) reply = SliceGives (store_of state) files text reply
Gives levels state files (says.Explain text) reply = reply ≡ explain_text (store_of state) text
Gives levels state files (says.Sql text) reply = QueryGives (store_of state) files text reply
Gives levels state files (says.Rollup text) reply = RollupGives levels (store_of state) files text reply
Gives levels state files (says.Level name attr block) reply = reply ≡ leveled_by levels (store_of state) name attr block
Gives levels state files says.Status reply = reply ≡ state_text state
Gives levels state files says.Upgrade reply = UpgradeGives state files reply
Gives levels state files says.Audit reply = AuditGives files reply
Gives levels state files (says.Begin block) reply = BeginGives state block reply
Gives levels state files (says.Step n) reply = reply ≡ pending_line state stepped_text
Gives levels state files says.Finish reply = FinishGives state files reply
Gives levels state files says.Abandon reply = reply ≡ pending_line state abandoned_text
Gives levels state files says.LongLine reply = IsLine long_line reply
Gives levels state files says.OpenBlock reply = IsLine open_block reply
Gives levels state files says.Unknown reply = IsLine is_unknown reply

-- ---- damage

-- damage that a command reports exists
abbrev pub TellsDamage : List Level → State → Files → Command → Stop → Type 0
TellsDamage levels state files (says.Slice text) stop = SliceTells levels (store_of state) files (says.Slice text) stop
TellsDamage levels state files (says.Load block) stop = LoadTells state files (Rows block) stop
TellsDamage levels state files (says.LoadNumbered number block) stop = LoadTells state files (Numbered number block) stop
TellsDamage levels state files (says.Generate start rows) stop = LoadTells state files (Generator start rows) stop
TellsDamage levels state files (says.Step n) stop = FinishTells state files stop
TellsDamage levels state files says.Finish stop = FinishTells state files stop
TellsDamage levels state files says.Upgrade stop = UpgradeTells state files stop
TellsDamage levels state files says.Audit stop = IsNoDamage stop
TellsDamage levels state files (says.Schema block) stop = IsNoDamage stop
TellsDamage levels state files (says.Explain text) stop = IsNoDamage stop
TellsDamage levels state files (says.Sql text) stop = FoldTells levels (store_of state) files (says.Sql text) stop
TellsDamage levels state files (says.Rollup text) stop = FoldTells levels (store_of state) files (says.Rollup text) stop
TellsDamage levels state files (says.Level name attr block) stop = IsNoDamage stop
TellsDamage levels state files says.Status stop = IsNoDamage stop
TellsDamage levels state files says.LongLine stop = IsNoDamage stop
TellsDamage levels state files says.OpenBlock stop = IsNoDamage stop
TellsDamage levels state files (says.Begin block) stop = IsNoDamage stop
TellsDamage levels state files says.Abandon stop = IsNoDamage stop
TellsDamage levels state files says.Unknown stop = IsNoDamage stop
