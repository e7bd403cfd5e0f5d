-- A command that goes to no page is carried out: what all such commands have alike is filled in here.
use Rattle.std.proofs.Common.{◌≡◌, ◌∙◌, ◌==◌, ◌+◌, Bool, true, false, cond, IsTrue, Global, Vec, ℕ, List, Option, Some, None, Result, Ok, Err, refl, sym, ap, subst}
use Rattle.std.specs.Result.{IsErrAnd}
use Rattle.site_core.specs.Calls.{Rests, Settles, Stays}
use Rattle.site_core.specs.Disk.{Files}
use Rattle.site_core.specs.declared.site.Site.{Ghosts}
use Rattle.cube_schema.specs.declared.schema.Schema.{Schema}
use Rattle.fact_model.specs.declared.slice.Slice.{Slice}
use Rattle.forest_root.specs.declared.body.Body.{Body}
use Rattle.page_cache.specs.Giving.{Cache}
use Rattle.roll_up.specs.declared.level.Level.{Level}
use Rattle.script_lang.specs.declared.command.Command.{Command}
use Rattle.spec_machine.specs.Machine.{act, asked_by, asked_over}
use Rattle.spec_machine.specs.World.{Kept, World}
use Rattle.cube_state.specs.declared.state.State.{State}
use Rattle.cube_state.specs.declared.stop.Stop.{Stop}
use Rattle.cube_state.specs.Cached.{Fits, FitsLive, SideStays, emptied, generation, kept_over, live_of}
use Rattle.cube_state.specs.Carried.{CarriesOut, Does, DoesNot, effect_of, IsReadyFor, IsStep, LeavesLive, LeavesState, MayWrite, RepliesAlone, Spares, TellsNone, made_alone}
use Rattle.cube_state.specs.Commands.{Costs, Gives, MakesNoCall, TellsDamage}
use Rattle.cube_state.specs.Costs.{Cost, Spends}
use Rattle.cube_state.specs.Frames.{IsQuiet, RunsOn}
use Rattle.cube_state.specs.Moves.{format_of, moves_made, reached_behind, reached_by}
use Rattle.cube_state.specs.Session.{Between, IsAnswer, Stands}
use Rattle.cube_state.specs.Stops.{IsNoDamage}
use Rattle.cube_state.specs.Visits.{GoesFrom, GoesOver, GoesTo, schema_of}
use Rattle.cube_state.proofs.Answering.{OnlyNow, quiet}
use Rattle.cube_state.proofs.Cached.{emptied_fits, kept_none, kept_same, side_fits}
use Rattle.cube_state.proofs.Costs.{spends_none}
use Rattle.cube_state.proofs.Looking.{quiet_here, rests_here, settled_here}
use Rattle.cube_state.proofs.Told.{spares_none, tells_none}

-- what holds of an error holds of a result that is this error
module _ {A E : Type 0} (P : Result A E → Type 0) (error : E) where
  pub at_error : (result : Result A E) → IsErrAnd result (λ e. e ≡ error) → P (Err error) → P result
  at_error (Ok x) same is = absurd same
  at_error (Err e) same is = subst (λ (x : E). P (Err x)) (sym same) is

-- a command that has no slice answered goes to no page
pub goes_nowhere : (command : Command) → ((schema : Schema) (levels : List Level) → asked_by schema levels command ≡ None) → (format : ℕ) (world : World) (numbers : List ℕ) → GoesTo format world command numbers → ⊥
goes_nowhere command none format world numbers goes = by world.kept goes
  where
    by : (kept : Kept) → GoesFrom format kept (asked_over kept world.levels command) numbers → ⊥
    by None is = is
    by (Some warehouse) is = subst (λ (a : Option Slice). GoesOver format warehouse.schema warehouse.facts a numbers) (none warehouse.schema world.levels) is

-- what writes does not leave what the session has
clash : (writes : Bool) → Does writes → DoesNot writes → ⊥
clash true does not = not
clash false does not = does

pub writes_on : (command : Command) → MayWrite command → LeavesState command → ⊥
writes_on command may leaves = clash (effect_of command).writes may leaves.0

-- ---- what is particular to an end of a command

-- for each world that the session stood for
abbrev pub ForEach : {S : Type 0} (T : Ghosts S) (state : State) (site : S) → (World → Type 0) → Type 0
ForEach T state site P = IsTrue T.tells → (world : World) → Stands state (T.disk site) world → P world

-- however it ends
pub record RunsFor {S : Type 0} (T : Ghosts S) (command : Command) (state : State) (old new : S) (world : World) : Type 0 where
  pub any_moment : Between (format_of state) (T.disk old) (T.disk new) world (act world command).0
  pub cost : (cost : Cost) → Costs world (reached_by state) command cost → Spends T cost old new

-- at a reply
pub record Replies {S : Type 0} (T : Ghosts S) (command : Command) (state next : State) (old new : S) (reply : List ℕ) : Type 0 where
  pub answer : ForEach T state old (λ world. IsAnswer (T.disk new) (act world command) next reply)
  pub moved : ForEach T state old (λ world. reached_by next ≡ reached_behind world (reached_by state) command)
  pub uncalled : ForEach T state old (λ world. MakesNoCall world (reached_by state) command → new ≡ old)
  pub answered : IsTrue T.tells → (levels : List Level) → Gives levels state (T.disk old).files command reply
  pub runs : RunsOn T new next
  -- the session may have something else then
  pub busy : LeavesState command → ⊥
  pub schema : (declared : Schema) → schema_of state ≡ Some declared → schema_of next ≡ Some declared
  pub made : (IsStep command → ⊥) → moves_made next ≡ made_alone command (moves_made state)
  pub said : RepliesAlone command → (files : Files) (levels : List Level) → Gives levels state files command reply

-- what it makes of the kept pages and of what is live
pub record Leaves {S : Type 0} (T : Ghosts S) (command : Command) (state next : State) (old new : S) (before after : Cache) : Type 0 where
  pub fits : IsTrue T.tells → Fits next (T.disk new).files after
  pub cache : after ≡ kept_over (live_of state) (live_of next) before
  pub live : LeavesLive command → live_of next ≡ live_of state
  pub side : IsTrue T.tells → LeavesLive command → SideStays (live_of state) (T.disk old).files (T.disk new).files
  pub step_side : IsTrue T.tells → IsStep command → SideStays (live_of state) (T.disk old).files (T.disk new).files
  -- where it may not write
  pub still : (MayWrite command → ⊥) → (new ≡ old) × (after ≡ before)
  pub stays : IsTrue T.tells → (MayWrite command → ⊥) → Fits state (T.disk new).files after

-- at a stop
pub record Stopped {S : Type 0} (T : Ghosts S) (command : Command) (state : State) (old new : S) (stop : Stop) : Type 0 where
  pub undamaged : ForEach T state old (λ world. IsNoDamage stop)
  pub damage : IsTrue T.tells → (levels : List Level) → TellsDamage levels state (T.disk old).files command stop
  pub spared : IsTrue T.tells → Spares (live_of state) (T.disk old).files (T.disk new).files stop
  pub harmless : TellsNone command → IsNoDamage stop
  pub step_side : IsTrue T.tells → IsStep command → SideStays (live_of state) (T.disk old).files (T.disk new).files

-- ---- the record of the command

kept_capacity : (same : Bool) (cache : Cache) → (cond same cache (emptied cache)).capacity ≡ cache.capacity
kept_capacity true cache = refl
kept_capacity false cache = refl

module _ {S : Type 0} (T : Ghosts S) (command : Command) (none_asked : (schema : Schema) (levels : List Level) → asked_by schema levels command ≡ None) (state next : State) (old new : S) where
  -- a reply of it
  pub replied : (before after : Cache) (reply : Vec ℕ Global) → ForEach T state old (RunsFor T command state old new) → Replies T command state next old new reply.items
      → Leaves T command state next old new before after → IsQuiet T old new (Ok reply) → CarriesOut T command state next old new before after (Ok reply)
  replied before after reply runs is leaves quiet levels = record {
    by_world = λ t world known stands. record {
      answer = is.answer t world stands;
      any_moment = (runs t world stands).any_moment;
      undamaged = tt;
      moved = is.moved t world stands;
      cost = (runs t world stands).cost;
      uncalled = is.uncalled t world stands;
      saves = λ numbers goes. absurd (goes_nowhere command none_asked (format_of state) world numbers goes);
      keeps = λ numbers goes. absurd (goes_nowhere command none_asked (format_of state) world numbers goes);
    };
    any_files = λ t. record {
      damage = tt;
      answered = is.answered t levels;
      spared = tt;
      looks = λ no dry. subst (λ (s : S). Rests (T.disk old) (T.disk s)) (sym (leaves.still no).0) (rests_here (T.disk old));
      settles = λ no. subst (λ (s : S). Settles {E = Stop} Stays (T.disk old) (T.disk s) (Ok reply)) (sym (leaves.still no).0) (settled_here (T.disk old) (Ok reply));
      fits = leaves.fits t;
    };
    goes_on = record {
      runs = is.runs;
      stays = λ leaves. absurd (is.busy leaves);
      schema = is.schema;
      cache = λ none. leaves.cache;
      capacity = ap (λ (c : Cache). c.capacity) leaves.cache ∙ kept_capacity (generation (live_of state) == generation (live_of next)) before;
      unwritten = λ no. ap T.writes (leaves.still no).0;
      quiet = quiet;
    };
    leaves = record {
      made = is.made;
      live = leaves.live;
      harmless = λ none. tt;
      said = λ alone files. is.said alone files levels;
      unasked = λ no nothing. (leaves.still no).1;
      fits = λ t no dry. leaves.stays t no;
      side = leaves.side;
      step_side = leaves.step_side;
    };
  }

  -- a stop of one that may write; whatever the session has then
  pub stopped : MayWrite command → (before after : Cache) → after.capacity ≡ before.capacity → (stop : Stop) → ForEach T state old (RunsFor T command state old new)
      → Stopped T command state old new stop → IsQuiet {A = Vec ℕ Global} T old new (Err stop) → CarriesOut T command state next old new before after (Err stop)
  stopped may before after same stop runs is quiet levels = record {
    by_world = λ t world known stands. record {
      answer = tt;
      any_moment = (runs t world stands).any_moment;
      undamaged = is.undamaged t world stands;
      moved = tt;
      cost = (runs t world stands).cost;
      uncalled = λ none. tt;
      saves = λ numbers goes. absurd (goes_nowhere command none_asked (format_of state) world numbers goes);
      keeps = λ numbers goes. tt;
    };
    any_files = λ t. record { damage = is.damage t levels; answered = tt; spared = is.spared t; looks = λ no dry. absurd (no may); settles = λ no. absurd (no may); fits = tt };
    goes_on = record { runs = tt; stays = λ leaves. tt; schema = λ declared has. tt; cache = λ none. tt; capacity = same; unwritten = λ no. absurd (no may); quiet = quiet };
    leaves = record {
      made = λ no. tt;
      live = λ same. tt;
      harmless = is.harmless;
      said = λ alone files. tt;
      unasked = λ no nothing. absurd (no may);
      fits = λ t no dry. absurd (no may);
      side = λ t same. tt;
      step_side = is.step_side;
    };
  }

  -- one that tells no damage
  pub unharmed : (stop : Stop) → IsNoDamage stop → (IsTrue T.tells → IsStep command → SideStays (live_of state) (T.disk old).files (T.disk new).files) → Stopped T command state old new stop
  unharmed stop none side = record {
    undamaged = λ t world stands. none;
    damage = λ t levels. tells_none levels state (T.disk old).files command stop none;
    spared = λ t. spares_none (live_of state) (T.disk old).files (T.disk new).files stop none;
    harmless = λ tells. none;
    step_side = side;
  }

  -- what is live stays
  pub beside : (cache : Cache) → IsReadyFor T old cache state → live_of next ≡ live_of state → (IsTrue T.tells → SideStays (live_of state) (T.disk old).files (T.disk new).files)
      → ((MayWrite command → ⊥) → new ≡ old) → Leaves T command state next old new cache cache
  beside cache ready same side still = record {
    fits = λ t. subst (λ (l : Option Body). FitsLive l (T.disk new).files cache) (sym same) (side_fits (live_of state) (T.disk old).files (T.disk new).files cache (side t) (ready.fits t));
    cache = sym (kept_same (live_of state) (live_of next) cache (ap generation same));
    live = λ leaves. same;
    side = λ t leaves. side t;
    step_side = λ t step. side t;
    still = λ no. (still no, refl);
    stays = λ t no. side_fits (live_of state) (T.disk old).files (T.disk new).files cache (side t) (ready.fits t);
  }

  -- the next generation is live, and no page is kept
  pub onward : MayWrite command → (LeavesLive command → ⊥) → (IsStep command → ⊥) → (before after : Cache) → generation (live_of next) ≡ generation (live_of state) + 1 → after ≡ emptied before
      → Leaves T command state next old new before after
  onward may no_live no_step before after one forgets = record {
    fits = λ t. emptied_fits (live_of next) (T.disk new).files before after forgets;
    cache = forgets ∙ sym (kept_none (live_of state) (live_of next) before one);
    live = λ leaves. absurd (no_live leaves);
    side = λ t leaves. absurd (no_live leaves);
    step_side = λ t step. absurd (no_step step);
    still = λ no. absurd (no may);
    stays = λ t no. absurd (no may);
  }

-- no call is made, and what the session has may be named anew
pub still : {S : Type 0} (T : Ghosts S) (command : Command) → ((schema : Schema) (levels : List Level) → asked_by schema levels command ≡ None) → (state next : State) (site : S) → (IsTrue T.tells → OnlyNow (T.disk site))
    → (cache : Cache) → IsReadyFor T site cache state → (reply : Vec ℕ Global) → Replies T command state next site site reply.items → live_of next ≡ live_of state
    → CarriesOut T command state next site site cache cache (Ok reply)
still T command none_asked state next site only cache ready reply is same =
    replied T command none_asked state next site site cache cache reply
    (λ t world stands. record { any_moment = quiet state (T.disk site) world (act world command).0 stands (only t); cost = λ cost costs. spends_none T cost site site refl }) is
    (beside T command none_asked state next site site cache ready same (λ t. refl) (λ no. refl)) (quiet_here T site)
