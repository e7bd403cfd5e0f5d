-- What happens to the batch of a source.
use Rattle.std.specs.Prelude.{◌≡◌, ◌<◌, ◌≤◌, ◌+◌, ◌%◌, ℕ, List, [], ◌++◌, IsTrue, codes, length, None, Some, Result, Ok, Err}
use Rattle.site_core.specs.Disk.{Files}
use Rattle.site_core.specs.declared.site.Site.{Ghosts}
use Rattle.attr_dict.specs.Admitting.{names_with}
use Rattle.cube_schema.specs.declared.schema.Schema.{Schema}
use Rattle.fact_model.specs.declared.fact.Fact.{Fact}
use Rattle.forest_refresh.specs.Begun.{Begun, IsGoing, IsReady}
use Rattle.forest_refresh.specs.Trees.{deltas_by}
use Rattle.forest_refresh.specs.declared.stop.BeginStop.{BeginStop}
use Rattle.forest_refresh.specs.declared.stop.BeginStop.TheVariants as begins
use Rattle.forest_root.specs.Root.{ClosesGate}
use Rattle.forest_root.specs.declared.forest.Store.{Store}
use Rattle.spec_store.specs.Held.{format_for}
use Rattle.reply_text.specs.Replies.{line}
use Rattle.roll_up.specs.declared.level.Level.{Level}
use Rattle.script_lang.specs.declared.command.Command.{Command}
use Rattle.spec_machine.specs.declared.batch_source.BatchSource.{BatchSource}
use Rattle.spec_machine.specs.Machine.{Answer, Given, act, asked_by, batch_from, refusal_of, take_over, unless}
use Rattle.spec_machine.specs.World.{Knows, Warehouse, World}
use Rattle.cube_state.specs.declared.state.State.{State}
use Rattle.cube_state.specs.declared.state.State.TheVariants.{Empty, Idle, Hollow, Pending}
use Rattle.cube_state.specs.declared.stop.Stop.{Stop}
use Rattle.cube_state.specs.declared.stop.Stop.TheVariants as stops
use Rattle.cube_state.specs.Batches.{IsRefused, given_to}
use Rattle.cube_state.specs.Carried.{CarriesOutAlone, IsStep, MayWrite, Reply, made_alone}
use Rattle.cube_state.specs.Commands.{Costs, Gives}
use Rattle.cube_state.specs.Costs.{Cost, Spends}
use Rattle.cube_state.specs.Frames.{IsQuiet}
use Rattle.cube_state.specs.Moves.{Reached, reached_behind}
use Rattle.cube_state.specs.Session.{AttendsAs, Belongs, Between, IsLine}
use Rattle.cube_batches.specs.declared.taking.Taken.{Taken}
use Rattle.cube_batches.specs.declared.taking.Taken.TheVariants.{Refused, Empty as Nothing, Begun as Began}

-- a schema is declared, and nothing is pending
abbrev pub IsIdle : State → Type 0
IsIdle Empty = ⊥
IsIdle (Idle store) = Unit {0}
IsIdle (Hollow store) = ⊥
IsIdle (Pending refresh) = ⊥

-- it is refused with this line, or memory runs out
abbrev pub OnlyRefuses : List ℕ → Result Taken Stop → Type 0
OnlyRefuses text (Ok (Refused reply)) = reply.items ≡ line text
OnlyRefuses text (Ok Nothing) = ⊥
OnlyRefuses text (Ok (Began refresh)) = ⊥
OnlyRefuses text (Err stop) = stop ≡ stops.Memory

-- if a batch has neither begun nor been refused, a file failed or memory ran out, possibly for the refusal
abbrev pub begin_stop : BeginStop → Stop
begin_stop begins.Disk = stops.Disk
begin_stop begins.Memory = stops.Memory
begin_stop begins.FactsFull = stops.Memory
begin_stop (begins.NamesFull a) = stops.Memory
begin_stop (begins.Mass m) = stops.Memory

-- ---- a command that sends the batch of a source

-- the answer, if `after` follows a batch within the limits
abbrev pub answer_by : World → (Warehouse → List Fact → ℕ → Answer) → BatchSource → Answer
answer_by world after source =
    take_over world (λ warehouse batch last. unless world (after warehouse batch last) (refusal_of warehouse.schema (warehouse.facts ++ batch))) world.kept world.pending source

-- nothing is pending, and the batch of the source is within the limits
pub record IsFitting (world : World) (source : BatchSource) (warehouse : Warehouse) (batch : List Fact) (last : ℕ) : Type 0 where
  pub knows : Knows (Some warehouse) None world
  pub read : batch_from warehouse.schema warehouse.last source ≡ Ok (batch, last)
  pub fits : refusal_of warehouse.schema (warehouse.facts ++ batch) ≡ None

-- the refusal of a batch given to a store: by its source, or by a limit if it has a fact
abbrev pub RefusesGiven : Store → Given → List ℕ → Type 0
RefusesGiven store (Err text) reply = reply ≡ text
RefusesGiven store (Ok given) reply = (0 < length given.0) × IsRefused store reply

abbrev pub RefusesBy : State → BatchSource → List ℕ → Type 0
RefusesBy Empty source reply = IsLine (codes "refused no schema") reply
RefusesBy (Idle store) source reply = RefusesGiven store (given_to store source) reply
RefusesBy (Hollow store) source reply = IsLine (codes "refused pending") reply
RefusesBy (Pending refresh) source reply = IsLine (codes "refused pending") reply

pub record Sends (command : Command) (source : BatchSource) : Type 0 where
  pub none_asked : (schema : Schema) (levels : List Level) → asked_by schema levels command ≡ None
  pub writes : MayWrite command
  pub no_step : IsStep command → ⊥
  -- what follows a batch within the limits
  pub after : World → Warehouse → List Fact → ℕ → Answer
  pub acts : (world : World) → act world command ≡ answer_by world (after world) source
  -- if nothing is accepted
  pub moves : (world : World) (reached : Reached) → (act world command).0.kept ≡ world.kept → reached_behind world reached command ≡ reached
  pub alone : (made : ℕ) → made_alone command made ≡ made
  pub refuses : (levels : List Level) (state : State) (files : Files) (reply : List ℕ) → RefusesBy state source reply → Gives levels state files command reply
  -- it makes at least one read and one write
  pub costs : (world : World) (reached : Reached) (cost : Cost) → Costs world reached command cost → (warehouse : Warehouse) (batch : List Fact) (last : ℕ)
      → IsFitting world source warehouse batch last → 0 < length batch → (1 ≤ cost.reads) × (1 ≤ cost.writes)

-- each command that sends this batch is carried out with this result
abbrev pub Answers : {S : Type 0} (T : Ghosts S) (source : BatchSource) (state next : State) (old new : S) (result : Reply) → Type 0
Answers T source state next old new result = (command : Command) → Sends command source → CarriesOutAlone T command state next old new result

-- ---- what happens to the batch

-- the batch is empty, and nothing is done
abbrev pub HasNone : {S : Type 0} (source : BatchSource) (state next : State) (old new : S) → Type 0
HasNone source state next old new = (store : Store) × (state ≡ Idle store) × (next ≡ state) × (new ≡ old) × (given_to store source ≡ Ok ([], store.forest.body.last))

-- the refresh adds the batch to the store, after which `last` is the last number; only the gate of the next generation has been written
pub record HasStarted {S : Type 0} (T : Ghosts S) (store : Store) (batch : List Fact) (last : ℕ) (old new : S) (refresh : Begun) : Type 0 where
  pub forest : refresh.store.forest ≡ store.forest
  pub points : refresh.deltas ≡ deltas_by (names_with store.dicts batch) store.forest.schema batch
  pub none_made : refresh.progress.taken ≡ 0
  pub goes : IsGoing refresh
  pub ready : IsTrue T.tells → IsReady refresh (T.disk new)
  pub closes : IsTrue T.tells → ClosesGate ((store.forest.body.generation + 1) % 2) (T.disk old).files (T.disk new).files
  pub attends : IsTrue T.tells → (warehouse : Warehouse) → Belongs store (T.disk old) warehouse → AttendsAs last refresh (T.disk new) warehouse batch
  -- at any moment the files keep what they kept, in the format they had
  pub any_moment : IsTrue T.tells → (warehouse : Warehouse) → Belongs store (T.disk old) warehouse → (world next : World) → world.kept ≡ Some warehouse → Between store.forest.body.format (T.disk old) (T.disk new) world next
  pub spent : Spends T (record { reads = 1; writes = 1 }) old new
  pub quiet : IsQuiet {A = Unit {0}} T old new (Ok tt)

-- the refresh adds the batch of a source, in pages of the format that its numbers need
pub record HasBegun {S : Type 0} (T : Ghosts S) (source : BatchSource) (store : Store) (old new : S) (refresh : Begun) : Type 0 where
  pub batch : List Fact
  pub last : ℕ
  pub given : given_to store source ≡ Ok (batch, last)
  pub some : 0 < length batch
  pub format : refresh.next.format ≡ format_for store.forest.body.format batch
  pub started : HasStarted T store batch last old new refresh

-- the state of the session before and after; once a refresh has begun, it has the store
abbrev pub TakesIn : {S : Type 0} (T : Ghosts S) (source : BatchSource) (state next : State) (old new : S) (result : Result Taken Stop) → Type 0
TakesIn T source state next old new (Ok (Refused reply)) = Answers T source state next old new (Ok reply)
TakesIn T source state next old new (Ok Nothing) = HasNone source state next old new
TakesIn T source state next old new (Ok (Began refresh)) = (store : Store) × (state ≡ Idle store) × HasBegun T source store old new refresh
TakesIn T source state next old new (Err stop) = Answers T source state next old new (Err stop)
