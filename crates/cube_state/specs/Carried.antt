-- What it means that a function carries out a command of the plain machine.
use Rattle.std.specs.Prelude.{◌≡◌, ℕ, Bool, IsTrue, true, false, cond, List, Option, Some, None, Result, IfOk, IfErr, OnOk}
use Rattle.std.specs.declared.alloc.Global.{Global}
use Rattle.std.specs.declared.vec.Vec.{Vec}
use Rattle.site_core.specs.Calls.{Rests, Settles, Stays}
use Rattle.site_core.specs.Disk.{Files}
use Rattle.site_core.specs.declared.site.Site.{Ghosts}
use Rattle.forest_root.specs.declared.body.Body.{Body}
use Rattle.page_cache.specs.Giving.{Cache}
use Rattle.cube_schema.specs.declared.schema.Schema.{Schema}
use Rattle.roll_up.specs.declared.level.Level.{Level}
use Rattle.script_lang.specs.declared.command.Command.{Command}
use Rattle.script_lang.specs.declared.command.Command.TheVariants as says
use Rattle.spec_machine.specs.Machine.{act}
use Rattle.spec_machine.specs.World.{World}
use Rattle.cube_state.specs.declared.state.State.{State}
use Rattle.cube_state.specs.declared.stop.Stop.{Stop}
use Rattle.cube_state.specs.declared.stop.Stop.TheVariants as stops
use Rattle.cube_state.specs.BatchDamage.{IsSpared}
use Rattle.cube_state.specs.Cached.{Fits, KeepsUp, Saves, SideStays, kept_over, live_file, live_of}
use Rattle.cube_state.specs.Commands.{Costs, Gives, MakesNoCall, TellsDamage}
use Rattle.cube_state.specs.Costs.{Cost, Spends}
use Rattle.cube_state.specs.Frames.{IsQuiet, RunsOn}
use Rattle.cube_state.specs.Moves.{format_of, moves_made, reached_behind, reached_by}
use Rattle.cube_state.specs.Session.{Between, IsAnswer, Stands}
use Rattle.cube_state.specs.Stops.{IsNoDamage}
use Rattle.cube_state.specs.Visits.{GoesTo, asks_pages, schema_of}

-- a session may carry out a command: it is in this state on a site, for any files, and the cached pages fit
pub record IsReadyFor {S : Type 0} (T : Ghosts S) (site : S) (cache : Cache) (state : State) : Type 0 where
  pub runs : RunsOn T site state
  pub fits : IsTrue T.tells → Fits state (T.disk site).files cache

-- ---- what a command may do

pub record Effect : Type 0 where
  -- it may write to files
  pub writes : Bool
  -- it writes nothing, but it syncs
  pub syncs : Bool
  -- it makes moves that the pending batch counts
  pub moves : Bool
  -- afterwards no batch is pending
  pub ends : Bool
  -- the live side may change
  pub renews : Bool
  -- it may report damage
  pub tells : Bool
  -- its reply depends on what the files hold, or on a world only
  pub looks : Bool

-- it only replies, from the state of the session
abbrev pub answers : Effect
answers = record { writes = false; syncs = false; moves = false; ends = false; renews = false; tells = false; looks = false }

-- it answers from pages
abbrev pub asks : Effect
asks = record answers { tells = true; looks = true }

-- it may rewrite all points
abbrev pub rewrites : Effect
rewrites = record { writes = true; syncs = false; moves = false; ends = false; renews = true; tells = true; looks = true }

abbrev pub effect_of : Command → Effect
effect_of (says.Schema block) = record rewrites { tells = false }
effect_of (says.Load block) = rewrites
effect_of (says.LoadNumbered number block) = rewrites
effect_of (says.Generate start rows) = rewrites
effect_of (says.Begin block) = record answers { writes = true }
effect_of (says.Step n) = record answers { writes = true; moves = true; tells = true }
effect_of says.Finish = record rewrites { ends = true }
effect_of says.Abandon = record answers { ends = true }
effect_of says.Upgrade = rewrites
effect_of says.Audit = record answers { syncs = true; looks = true }
effect_of (says.Slice text) = asks
effect_of (says.Explain text) = answers
effect_of (says.Sql text) = asks
effect_of (says.Rollup text) = asks
effect_of (says.Level name attr block) = answers
effect_of says.Status = answers
effect_of says.LongLine = answers
effect_of says.OpenBlock = answers
effect_of says.Unknown = answers

abbrev pub Does : Bool → Type 0
Does true = Unit {0}
Does false = ⊥

abbrev pub DoesNot : Bool → Type 0
DoesNot true = ⊥
DoesNot false = Unit {0}

abbrev pub MayWrite : Command → Type 0
MayWrite command = Does (effect_of command).writes

abbrev pub Syncs : Command → Type 0
Syncs command = Does (effect_of command).syncs

abbrev pub IsStep : Command → Type 0
IsStep command = Does (effect_of command).moves

-- how many moves are made when any command but a step has ended, if `made` were before
abbrev pub made_alone : Command → ℕ → ℕ
made_alone command made = cond (effect_of command).ends 0 made

abbrev pub LeavesLive : Command → Type 0
LeavesLive command = DoesNot (effect_of command).renews

-- it leaves what the session has: it writes nothing, and drops no pending batch
abbrev pub LeavesState : Command → Type 0
LeavesState command = DoesNot (effect_of command).writes × DoesNot (effect_of command).ends

abbrev pub TellsNone : Command → Type 0
TellsNone command = DoesNot (effect_of command).tells

-- for any files, its reply is one that the session gives
abbrev pub RepliesAlone : Command → Type 0
RepliesAlone command = DoesNot (effect_of command).looks

-- ---- a reply, or a stop

abbrev pub Reply : Type 0
Reply = Result (Vec ℕ Global) Stop

-- by the world that the session represented before the command
pub record ByWorld {S : Type 0} (T : Ghosts S) (command : Command) (world : World) (state next : State) (old new : S) (before after : Cache) (result : Reply) : Type 0 where
  -- it represents the next world, and the reply is the plain machine's
  pub answer : IfOk result (λ reply. IsAnswer (T.disk new) (act world command) next reply.items)
  -- a stop at any moment, or an error, leaves what was known before or what is known after; nothing is output
  pub any_moment : Between (format_of state) (T.disk old) (T.disk new) world (act world command).0
  pub undamaged : IfErr result IsNoDamage
  pub moved : OnOk result (reached_by next ≡ reached_behind world (reached_by state) command)
  pub cost : (cost : Cost) → Costs world (reached_by state) command cost → Spends T cost old new
  pub uncalled : MakesNoCall world (reached_by state) command → OnOk result (new ≡ old)
  -- if there is room, a slice reads only those of its pages that are not cached, and caches them
  pub saves : (numbers : List ℕ) → GoesTo (format_of state) world command numbers → Saves before (live_file (live_of state)) numbers (T.reads old) (T.reads new)
  pub keeps : (numbers : List ℕ) → GoesTo (format_of state) world command numbers → OnOk result (KeepsUp before after (live_file (live_of state)) numbers)

-- without a schema all files are unchanged; with one, the names and the live side are
abbrev pub SparesOf : Option Body → Files → Files → Type 0
SparesOf None old new = new ≡ old
SparesOf (Some live) old new = IsSpared live old new

-- what damage leaves of the files
abbrev pub Spares : Option Body → Files → Files → Stop → Type 0
Spares live old new (stops.Damaged file offset) = SparesOf live old new
Spares live old new stops.Disk = Unit {0}
Spares live old new stops.Output = Unit {0}
Spares live old new stops.Memory = Unit {0}

-- for any files
pub record OverAnyFiles {S : Type 0} (T : Ghosts S) (levels : List Level) (command : Command) (state next : State) (old new : S) (after : Cache) (result : Reply) : Type 0 where
  -- damage that is reported exists, and is not a reply; it leaves what counts
  pub damage : IfErr result (TellsDamage levels state (T.disk old).files command)
  pub answered : IfOk result (λ reply. Gives levels state (T.disk old).files command reply.items)
  pub spared : IfErr result (Spares (live_of state) (T.disk old).files (T.disk new).files)
  -- a command that writes nothing changes nothing, unless a sync fails
  pub looks : (MayWrite command → ⊥) → (Syncs command → ⊥) → Rests (T.disk old) (T.disk new)
  pub settles : (MayWrite command → ⊥) → Settles Stays (T.disk old) (T.disk new) result
  pub fits : OnOk result (Fits next (T.disk new).files after)

-- whether or not the site reports its content
pub record GoesOn {S : Type 0} (T : Ghosts S) (levels : List Level) (command : Command) (state next : State) (old new : S) (before after : Cache) (result : Reply) : Type 0 where
  pub runs : OnOk result (RunsOn T new next)
  pub stays : LeavesState command → OnOk result (next ≡ state)
  -- a declared schema stays
  pub schema : (declared : Schema) → schema_of state ≡ Some declared → OnOk result (schema_of next ≡ Some declared)
  -- no page stays cached past a new generation; otherwise only a slice changes the cache
  pub cache : asks_pages levels state command ≡ false → OnOk result (after ≡ kept_over (live_of state) (live_of next) before)
  pub capacity : after.capacity ≡ before.capacity
  pub unwritten : (MayWrite command → ⊥) → T.writes new ≡ T.writes old
  pub quiet : IsQuiet T old new result

-- ---- what a command leaves alone

-- what holds whether or not the site reports its content, and what is unchanged for any files
pub record LeavesAlone {S : Type 0} (T : Ghosts S) (levels : List Level) (command : Command) (state next : State) (old new : S) (before after : Cache) (result : Reply) : Type 0 where
  pub made : (IsStep command → ⊥) → OnOk result (moves_made next ≡ made_alone command (moves_made state))
  pub live : LeavesLive command → OnOk result (live_of next ≡ live_of state)
  pub harmless : TellsNone command → IfErr result IsNoDamage
  pub said : RepliesAlone command → (files : Files) → IfOk result (λ reply. Gives levels state files command reply.items)
  -- only an answered slice, or a command that writes, adds or drops cached pages
  pub unasked : (MayWrite command → ⊥) → asks_pages levels state command ≡ false → after ≡ before
  -- a command that only reads leaves cached pages that fit, however it ends
  pub fits : IsTrue T.tells → (MayWrite command → ⊥) → (Syncs command → ⊥) → Fits state (T.disk new).files after
  pub side : IsTrue T.tells → LeavesLive command → OnOk result (SideStays (live_of state) (T.disk old).files (T.disk new).files)
  -- a step leaves the live side unchanged, however it ends
  pub step_side : IsTrue T.tells → IsStep command → SideStays (live_of state) (T.disk old).files (T.disk new).files

-- with these levels a command is carried out: the state, the site and the cache before and after
pub record CarriesOutWith {S : Type 0} (T : Ghosts S) (levels : List Level) (command : Command) (state next : State) (old new : S) (before after : Cache) (result : Reply) : Type 0 where
  pub by_world : IsTrue T.tells → (world : World) → world.levels ≡ levels → Stands state (T.disk old) world → ByWorld T command world state next old new before after result
  pub any_files : IsTrue T.tells → OverAnyFiles T levels command state next old new after result
  pub goes_on : GoesOn T levels command state next old new before after result
  pub leaves : LeavesAlone T levels command state next old new before after result

-- for any levels
abbrev pub CarriesOut : {S : Type 0} (T : Ghosts S) (command : Command) (state next : State) (old new : S) (before after : Cache) (result : Reply) → Type 0
CarriesOut T command state next old new before after result = (levels : List Level) → CarriesOutWith T levels command state next old new before after result

-- for any cached pages that fit, the command is carried out and leaves them as they are
abbrev pub CarriesOutAlone : {S : Type 0} (T : Ghosts S) (command : Command) (state next : State) (old new : S) (result : Reply) → Type 0
CarriesOutAlone T command state next old new result = (cache : Cache) → IsReadyFor T old cache state → CarriesOut T command state next old new cache cache result
