-- A session, which has nothing once it has stopped, and what a command does to it, said once.
use Rattle.std.specs.Prelude.{◌≡◌, ◌≢◌, ◌≤◌, ◌+◌, ◌++◌, ℕ, IsTrue, IsErrOf, false, List, [], ◌∷◌, Option, Some, None, Result, Ok, Err, IfOk, IfErr, OnErr, OnOk}
use Rattle.std.specs.Option.{IsSomeAnd}
use Rattle.site_core.specs.Calls.{Emits, Settles, Stays}
use Rattle.site_core.specs.Disk.{Disk, Files}
use Rattle.site_core.specs.Moments.{LeavesOnly}
use Rattle.site_core.specs.declared.site.Site.{Ghosts}
use Rattle.forest_open.specs.Breaks.{BreaksAt}
use Rattle.forest_open.specs.Judging.{IsFound}
use Rattle.forest_open.specs.Opening.{Place}
use Rattle.forest_root.specs.declared.body.Body.{Body}
use Rattle.forest_root.specs.declared.forest.Store.{Store}
use Rattle.page_cache.specs.Giving.{Cache}
use Rattle.script_lang.specs.declared.command.Command.{Command}
use Rattle.spec_crash.specs.Keeps.{Keeps}
use Rattle.spec_machine.specs.Machine.{act, levels_behind}
use Rattle.roll_up.specs.declared.level.Level.{Level}
use Rattle.spec_crash.specs.Stops.{Meanwhile}
use Rattle.spec_machine.specs.World.{Kept, World, bare}
use Rattle.cube_state.specs.Cached.{KeepsUp, Saves, kept_over, live_file, live_of}
use Rattle.cube_state.specs.Audits.{open_cost}
use Rattle.cube_state.specs.Carried.{IsReadyFor, LeavesState, MayWrite, Spares, Syncs}
use Rattle.cube_state.specs.Commands.{Costs, Gives, MakesNoCall, TellsDamage}
use Rattle.cube_state.specs.Costs.{Cost, Spends}
use Rattle.cube_state.specs.Frames.{IsQuiet, StopsFor}
use Rattle.cube_state.specs.Moves.{FromFormat, KeepsFormat, Reached, format_of, moves_made, reached_behind, reached_by, unmoved}
use Rattle.cube_state.specs.Session.{Stands}
use Rattle.cube_state.specs.Stops.{IsNoDamage}
use Rattle.cube_state.specs.Levels.{FitSchema}
use Rattle.cube_state.specs.Visits.{GoesTo, asks_pages, schema_of}
use Rattle.cube_state.specs.declared.state.State.{State}
use Rattle.cube_state.specs.declared.state.State.TheVariants.{Empty, Idle}
use Rattle.cube_state.specs.declared.stop.Stop.{Stop}
use Rattle.cube_state.specs.declared.stop.Stop.TheVariants as stops
use Rattle.cube_session.specs.Damage.{StopsAt, TellsBreak}
use Rattle.cube_session.specs.declared.held.Held.{Held}
use Rattle.cube_session.specs.declared.session.Session.{Session}

-- it goes on, on this site: the kept pages fit, and its levels fit the schema
pub record IsGoing {S : Type 0} (T : Ghosts S) (site : S) (cache : Cache) (held : Held) : Type 0 where
  pub ready : IsReadyFor T site cache held.state
  pub fit : FitSchema (schema_of held.state) held.levels

-- it has not stopped
abbrev pub Runs : {S : Type 0} → Ghosts S → S → Option Held → Cache → Type 0
Runs T site held cache = IsSomeAnd held (IsGoing T site cache)

-- it stands for this world, whose levels it has
pub record StandsAs (held : Held) (disk : Disk) (world : World) : Type 0 where
  pub stands : Stands held.state disk world
  pub levels : world.levels ≡ held.levels

-- it has not stopped, and stands for this world
abbrev pub StandsFor : Option Held → Disk → World → Type 0
StandsFor held disk world = IsSomeAnd held (λ h. StandsAs h disk world)

-- how many moves of the pending batch it has made
abbrev pub moves_for : Option Held → ℕ
moves_for None = 0
moves_for (Some held) = moves_made held.state

-- what it has reached
abbrev pub reached_for : Option Held → Reached
reached_for None = unmoved 1
reached_for (Some held) = reached_by held.state

-- what is live for it
abbrev pub live_for : Option Held → Option Body
live_for None = None
live_for (Some held) = live_of held.state

-- its state
abbrev pub state_for : Option Held → Option State
state_for None = None
state_for (Some held) = Some held.state

-- its levels
abbrev pub levels_for : Option Held → List Level
levels_for None = []
levels_for (Some held) = held.levels

-- ---- the start

-- what it has of files that were opened
abbrev pub opened_state : Option Store → State
opened_state None = Empty
opened_state (Some store) = Idle store

-- with no levels
abbrev pub opened_held : Option Store → Held
opened_held found = record { state = opened_state found; levels = [] }

-- what opening these files finds, and nothing else
pub record HasOpened (files : Files) (held : Option Held) : Type 0 where
  pub found : Option Store
  pub is_found : IsFound files found
  pub has : held ≡ Some (opened_held found)

-- The files are opened, for a session that may keep so many pages between slices: what there is then, on a site as it was and is.
pub record Starts {S : Type 0} (T : Ghosts S) (most : ℕ) (old new : S) (result : Result Session Stop) : Type 0 where
  -- what the files keep is opened, and no damage is told
  pub opened : IsTrue T.tells → (kept : Kept) → Keeps (T.disk old).files kept → IfOk result (λ session. StandsFor session.held (T.disk new) (bare kept))
  pub undamaged : IsTrue T.tells → (kept : Kept) → Keeps (T.disk old).files kept → IfErr result IsNoDamage
  -- damage is told where a rule of opening is broken, and there alone
  pub broken : IsTrue T.tells → (place : Place) → BreaksAt (T.disk old).files place → IfErr result (StopsAt place) × OnOk result ⊥
  pub damaged : IsTrue T.tells → IfErr result (TellsBreak (T.disk old).files)
  pub cost : IsTrue T.tells → (kept : Kept) → Keeps (T.disk old).files kept → T.reads new ≤ T.reads old + open_cost kept
  -- whatever they hold
  pub found : IsTrue T.tells → IfOk result (λ session. HasOpened (T.disk old).files session.held)
  pub runs : IfOk result (λ session. Runs T new session.held session.pages)
  pub moved : IfOk result (λ session. moves_for session.held ≡ 0)
  pub reached : IsTrue T.tells → (kept : Kept) → Keeps (T.disk old).files kept → IfOk result (λ session. FromFormat (T.disk old).files kept (λ reached. reached_for session.held ≡ reached))
  pub cache : IfOk result (λ session. session.pages.capacity ≡ most)
  pub empty : IfOk result (λ session. session.pages.kept ≡ [])
  -- nothing is changed, also after an error; where no file failed, a read gives what it gave before
  pub disk : IsTrue T.tells → Settles Stays (T.disk old) (T.disk new) result
  pub unchanged : IsTrue T.tells → IfErr result (λ stop. stop ≢ stops.Disk → (T.disk new).files ≡ (T.disk old).files)
  pub quiet : IsQuiet T old new result
  pub no_output : IsErrOf result stops.Output → ⊥
  pub writes : T.writes new ≡ T.writes old

-- ---- a command and its reply

-- what it has behind this result: nothing once it has stopped
abbrev pub unless_stopped : Held → Result (Unit {0}) Stop → Option Held
unless_stopped held (Ok answered) = Some held
unless_stopped held (Err stop) = None

-- a reply to the command was told, and it is one that it gives
pub record RepliesTo (held : Held) (files : Files) (command : Command) (before now : List ℕ) : Type 0 where
  pub reply : List ℕ
  pub told : now ≡ before ++ reply
  pub right : Gives held.levels held.state files command reply

-- one call was made, and it told this reply
pub record TellsAlone {S : Type 0} (T : Ghosts S) (reply : List ℕ) (old new : S) : Type 0 where
  pub disk : Emits reply (T.disk old) (T.disk new)
  pub disk_faults : T.disk_faults new ≡ T.disk_faults old
  pub reads : T.reads new ≡ T.reads old
  pub writes : T.writes new ≡ T.writes old

-- the world that the session stood for before the command
pub record AnswersByWorld {S : Type 0} (T : Ghosts S) (command : Command) (world : World) (state : State) (has : Option Held) (old new : S) (before after : Cache) (result : Result (Unit {0}) Stop) : Type 0 where
  pub stands : OnOk result (StandsFor has (T.disk new) (act world command).0)
  pub told : OnOk result ((T.disk new).told ≡ (T.disk old).told ++ (act world command).1)
  pub any_moment : LeavesOnly (T.disk old) (T.disk new) (Meanwhile world command (T.disk old).told)
  -- and no format is left again, whatever commands follow
  pub formats : (rest : List Command) → LeavesOnly (T.disk old) (T.disk new) (KeepsFormat world (reached_by state) (command ∷ rest) (T.disk old).told)
  pub undamaged : IfErr result IsNoDamage
  pub moved : OnOk result (reached_for has ≡ reached_behind world (reached_by state) command)
  pub cost : (cost : Cost) → Costs world (reached_by state) command cost → Spends T cost old new
  pub uncalled : MakesNoCall world (reached_by state) command → OnOk result (TellsAlone T (act world command).1 old new)
  -- a slice reads of its pages those alone that are not kept, where there is room, and keeps them
  pub saves : (numbers : List ℕ) → GoesTo (format_of state) world command numbers → Saves before (live_file (live_of state)) numbers (T.reads old) (T.reads new)
  pub keeps : (numbers : List ℕ) → GoesTo (format_of state) world command numbers → OnOk result (KeepsUp before after (live_file (live_of state)) numbers)

-- the files hold what they may
pub record AnswersAnyFiles {S : Type 0} (T : Ghosts S) (command : Command) (held : Held) (old new : S) (result : Result (Unit {0}) Stop) : Type 0 where
  -- damage that is told is there, and is no reply; it leaves what counts
  pub damage : IfErr result (TellsDamage held.levels held.state (T.disk old).files command)
  pub answered : OnOk result (RepliesTo held (T.disk old).files command (T.disk old).told (T.disk new).told)
  pub spared : IfErr result (Spares (live_of held.state) (T.disk old).files (T.disk new).files)
  -- what writes nothing changes nothing, unless a sync of it fails
  pub looks : (MayWrite command → ⊥) → (Syncs command → ⊥) → (T.disk new).files ≡ (T.disk old).files
  pub settles : (MayWrite command → ⊥) → OnOk result ((T.disk new).files ≡ (T.disk old).files)

-- whatever the site tells
pub record AnswersOn {S : Type 0} (T : Ghosts S) (command : Command) (held : Held) (has : Option Held) (old new : S) (before after : Cache) (result : Result (Unit {0}) Stop) : Type 0 where
  pub stopped : OnErr result (has ≡ None)
  pub runs : OnOk result (Runs T new has after)
  pub stays : LeavesState command → OnOk result (state_for has ≡ Some held.state)
  -- a level that is not refused is one of its levels
  pub leveled : OnOk result (levels_for has ≡ levels_behind (schema_of held.state) held.levels command)
  -- none is kept over a new generation, and no other command but a slice changes them
  pub cache : asks_pages held.levels held.state command ≡ false → OnOk result (after ≡ kept_over (live_of held.state) (live_for has) before)
  pub capacity : after.capacity ≡ before.capacity
  pub unwritten : (MayWrite command → ⊥) → T.writes new ≡ T.writes old
  pub stops : StopsFor T old new result

-- A session that had this carries out a command and tells its reply: what it has then, on a site as it was and is, with the kept pages.
pub record Answers {S : Type 0} (T : Ghosts S) (command : Command) (held : Held) (has : Option Held) (old new : S) (before after : Cache) (result : Result (Unit {0}) Stop) : Type 0 where
  pub by_world : IsTrue T.tells → (world : World) → StandsAs held (T.disk old) world → AnswersByWorld T command world held.state has old new before after result
  pub any_files : IsTrue T.tells → AnswersAnyFiles T command held old new result
  pub goes_on : AnswersOn T command held has old new before after result
