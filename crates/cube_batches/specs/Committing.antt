-- The commit of a refresh that has begun, and commands that only reply.
use Rattle.std.specs.Prelude.{◌≡◌, ◌≤◌, ◌+◌, ◌++◌, ℕ, List, length, IsTrue, None, Some, Ok, Err}
use Rattle.site_core.specs.Disk.{DiffersPast, Files}
use Rattle.site_core.specs.declared.site.Site.{Ghosts}
use Rattle.cube_schema.specs.declared.schema.Schema.{Schema}
use Rattle.fact_model.specs.declared.fact.Fact.{Fact}
use Rattle.spec_moves.specs.Forest.{forest_moves}
use Rattle.forest_refresh.specs.Begun.{Begun, next_side}
use Rattle.forest_root.specs.declared.body.Body.{Body}
use Rattle.spec_store.specs.Sides.{page_count}
use Rattle.page_cache.specs.Giving.{Cache}
use Rattle.reply_text.specs.Replies.{committed_text, line, upgraded_text}
use Rattle.roll_up.specs.declared.level.Level.{Level}
use Rattle.script_lang.specs.declared.command.Command.{Command}
use Rattle.spec_machine.specs.Machine.{Answer, act, asked_by, committed}
use Rattle.spec_machine.specs.World.{Warehouse, World}
use Rattle.cube_state.specs.declared.state.State.{State}
use Rattle.cube_state.specs.declared.state.State.TheVariants.{Empty, Idle, Hollow, Pending}
use Rattle.cube_state.specs.declared.stop.Stop.{Stop}
use Rattle.cube_state.specs.declared.stop.Stop.TheVariants as stops
use Rattle.cube_state.specs.BatchCosts.{commit_cost}
use Rattle.cube_state.specs.BatchDamage.{TellsRefreshDamage}
use Rattle.cube_state.specs.Batches.{IsEnded}
use Rattle.cube_state.specs.Cached.{live_of}
use Rattle.cube_state.specs.Carried.{CarriesOut, IsStep, LeavesLive, MayWrite, Reply, RepliesAlone, Spares, TellsNone, made_alone}
use Rattle.cube_state.specs.Commands.{Costs, Gives, MakesNoCall, TellsDamage}
use Rattle.cube_state.specs.Costs.{Cost, Spends}
use Rattle.cube_state.specs.Frames.{IsQuiet}
use Rattle.cube_state.specs.Moves.{format_of, moves_made, reached_behind, reached_by, unmoved}
use Rattle.cube_state.specs.Session.{AttendsAs, Between, Stands}
use Rattle.cube_state.specs.Visits.{schema_of}
use Rattle.cube_batches.specs.declared.committing.Told.{Told}
use Rattle.cube_batches.specs.declared.committing.Told.TheVariants.{Committed, Upgraded}

-- ---- a reply

-- how many facts a session has accepted
abbrev pub fact_count : State → ℕ
fact_count Empty = 0
fact_count (Idle store) = store.forest.body.facts
fact_count (Hollow store) = store.forest.body.facts
fact_count (Pending refresh) = refresh.store.forest.body.facts

-- the reply after a refresh has ended, by the number of facts
abbrev pub text_of : Told → ℕ → List ℕ
text_of Committed count = committed_text count
text_of Upgraded count = line upgraded_text

-- the reply is this text, or memory runs out
abbrev pub SaysOnly : List ℕ → Reply → Type 0
SaysOnly text (Ok reply) = reply.items ≡ text
SaysOnly text (Err stop) = stop ≡ stops.Memory

-- ---- a commit

-- damage changes no file but the side of the next generation
abbrev pub SparesOthers : Body → Files → Files → Stop → Type 0
SparesOthers live old new (stops.Damaged file offset) = DiffersPast (next_side live) 0 old new
SparesOthers live old new stops.Disk = Unit {0}
SparesOthers live old new stops.Output = Unit {0}
SparesOthers live old new stops.Memory = Unit {0}

-- the batch is accepted, and this is the reply
abbrev pub ended_with : Told → World → Warehouse → List Fact → ℕ → Answer
ended_with told world warehouse batch last = ((committed world warehouse batch last).0, text_of told (length (warehouse.facts ++ batch)))

-- in this world the command accepts the batch of the refresh
pub record EndsFor {S : Type 0} (T : Ghosts S) (told : Told) (command : Command) (state : State) (refresh : Begun) (old mid : S) (world : World) : Type 0 where
  pub warehouse : Warehouse
  pub batch : List Fact
  pub last : ℕ
  pub attends : AttendsAs last refresh (T.disk mid) warehouse batch
  pub kept : world.kept ≡ Some warehouse
  -- the format never goes down
  pub later : refresh.store.forest.body.format ≤ refresh.next.format
  pub acts : act world command ≡ ended_with told world warehouse batch last
  pub any_moment : (new : S) → Between (format_of state) (T.disk mid) (T.disk new) world (act world command).0 → Between (format_of state) (T.disk old) (T.disk new) world (act world command).0
  pub moves : reached_behind world (reached_by state) command ≡ unmoved refresh.next.format
  pub calls : MakesNoCall world (reached_by state) command → ⊥
  pub costs : (cost : Cost) → Costs world (reached_by state) command cost → (new : S)
      → Spends T (commit_cost (forest_moves (format_of state) refresh.next.format warehouse.schema warehouse.facts batch) refresh.progress.taken) mid new
      → T.reads new ≤ T.reads mid + page_count (format_of state) warehouse.schema warehouse.facts → Spends T cost old new

-- the command ends with the commit of a refresh that has begun by mid
pub record Ends {S : Type 0} (T : Ghosts S) (told : Told) (command : Command) (state : State) (refresh : Begun) (old mid : S) : Type 0 where
  pub none_asked : (schema : Schema) (levels : List Level) → asked_by schema levels command ≡ None
  pub writes : MayWrite command
  pub no_step : IsStep command → ⊥
  pub no_live : LeavesLive command → ⊥
  pub harms : TellsNone command → ⊥
  pub reads : RepliesAlone command → ⊥
  pub alone : made_alone command (moves_made state) ≡ 0
  pub by_world : IsTrue T.tells → (world : World) → Stands state (T.disk old) world → EndsFor T told command state refresh old mid world
  pub quiet : (new : S) (result : Reply) → IsQuiet T mid new result → IsQuiet T old new result
  pub damage : IsTrue T.tells → (levels : List Level) (stop : Stop) → TellsRefreshDamage refresh (T.disk mid).files stop → TellsDamage levels state (T.disk old).files command stop
  pub gives : IsTrue T.tells → (levels : List Level) (reply : List ℕ) → IsEnded (text_of told) refresh (T.disk mid).files reply → Gives levels state (T.disk old).files command reply
  pub spares : IsTrue T.tells → (new : S) (stop : Stop) → SparesOthers refresh.store.forest.body (T.disk mid).files (T.disk new).files stop
      → Spares (live_of state) (T.disk old).files (T.disk new).files stop
  pub live : live_of state ≡ Some refresh.store.forest.body
  pub schema : schema_of state ≡ Some refresh.store.forest.schema

-- each command that ends like this is carried out
abbrev pub Commits : {S : Type 0} (T : Ghosts S) (told : Told) (refresh : Begun) (next : State) (mid new : S) (before after : Cache) (result : Reply) → Type 0
Commits {S} T told refresh next mid new before after result =
    (command : Command) (state : State) (old : S) → Ends T told command state refresh old mid → CarriesOut T command state next old new before after result
