-- A command that is answered from the pages of a slice, or only answers.
use Rattle.cube_slices.proofs.Names.{RepliesAlone, SideStays, Vec, Global, Agrees, StopCause, Option, Result, List, sym, subst, ap, Some, ◌∙◌, None, ◌≡◌, ℕ, length}
use Rattle.cube_slices.proofs.Names.{refl, arith, true, false, cond, true≢false, Ok, IsTrue, Err, IfErr, ◌≤◌, ◌+◌, IfOk, OnOk, IfOk-weaker, IsErrOf}
use Rattle.cube_slices.proofs.Names.{Disk, Files, Ghosts, Fact, Row, Slice, Schema, IsPicked, Cache, Body, Store, side_of, IsStoreOf, Command, same-cost}
use Rattle.cube_slices.proofs.Names.{visits_of, AnswerStop, act, asked_by, asked_over, asked_slice}
use Rattle.cube_slices.proofs.Names.{is_covered, Kept, Warehouse, World, OnlyNow, fit_rests, resting, stands_rests, holds, kept_same}
use Rattle.cube_slices.proofs.Names.{attends_belongs, spares_same, AreLive, KeepsUp, Saves, Fits, FitsLive, live_file, live_of, ByWorld, CarriesOutWith, Level, OnlySaysWith, says_just, IsReadyFor, OverAnyFiles, Reply}
use Rattle.cube_slices.proofs.Names.{Spares, Gives, Cost, Spends, IsQuiet, Belongs, Stands, IsAnswer, IsNoDamage, GoesFrom, GoesOver, GoesTo}
use Rattle.cube_slices.proofs.Names.{ReadsFor, ReadsFrom, asked_from, asks_pages, is_asked, store_of, State, Empty, Idle, Hollow, Pending, Stop, subst₂}
use Rattle.cube_state.proofs.SliceCosts.{picked-one, some-covers}
use Rattle.site_core.specs.Calls.{Stays}
use Rattle.site_core.proofs.Run.{Changes-settles}
use Rattle.slice_exec.specs.Answering.{AnswersFrom}
use Rattle.slice_exec.specs.Searching.{SearchesView}
use Rattle.cube_state.specs.Moves.{format_in, format_of}
use Rattle.cube_slices.specs.Told.{answer_stop}
use Rattle.cube_state.proofs.Told.{tells_none}
use Rattle.cube_state.specs.Slices.{IsSpoiltAt}
use Rattle.cube_state.specs.Carried.{Does, DoesNot, Effect, IsStep, MayWrite, TellsNone, asks as asks_effect, effect_of, made_alone}
use Rattle.cube_state.specs.Commands.{Costs, MakesNoCall, TellsDamage}
use Rattle.cube_state.specs.Moves.{Reached, moves_made, reached_behind, reached_by}

pub same_in : {A : Type 0} {x y : A} → Some x ≡ Some y → x ≡ y
same_in is = cc

pub none_some : {A : Type 0} {x : A} → None ≡ Some x → ⊥
none_some is = cc

-- ---- the store that a session has

-- the store is that of the facts which the world keeps, and these are its levels
pub record IsKept (levels : List Level) (store : Store) (disk : Disk) (world : World) : Type 0 where
  pub facts : List Fact
  pub last : ℕ
  pub kept : world.kept ≡ Some (record { schema = store.forest.schema; facts = facts; last = last })
  pub stored : IsStoreOf store facts disk.files
  pub leveled : world.levels ≡ levels

abbrev pub KeptBy : List Level → Option Store → Disk → World → Type 0
KeptBy levels None disk world = world.kept ≡ None
KeptBy levels (Some store) disk world = IsKept levels store disk world

kept_by : (store : Store) (disk : Disk) (world : World) (warehouse : Warehouse) → world.kept ≡ Some warehouse → Belongs store disk warehouse → IsKept world.levels store disk world
kept_by store disk world warehouse kept is = record {
  facts = warehouse.facts;
  last = warehouse.last;
  kept = kept ∙ ap (λ (schema : Schema). Some (record warehouse { schema = schema })) (sym is.schema);
  stored = is.stored.read;
  leveled = refl;
}

kept_as : (state : State) (disk : Disk) (world : World) → Stands state disk world → KeptBy world.levels (store_of state) disk world
kept_as Empty disk world is = is.0.kept
kept_as (Idle store) disk world is = kept_by store disk world is.0 is.1.kept is.2
kept_as (Hollow store) disk world is = kept_by store disk world is.0 is.1.kept is.2
kept_as (Pending r) disk world is = kept_by r.store disk world is.0 is.2.kept (attends_belongs r disk is.0 is.1 is.3.attends)

pub kept_over : (levels : List Level) (state : State) (k : Option Store) (disk : Disk) (world : World) → world.levels ≡ levels → store_of state ≡ k → Stands state disk world → KeptBy levels k disk world
kept_over levels state k disk world known has stands = subst₂ (λ (ls : List Level) (o : Option Store). KeptBy ls o disk world) known has (kept_as state disk world stands)

pub live_as : (state : State) (store : Store) → store_of state ≡ Some store → live_of state ≡ Some store.forest.body
live_as Empty store has = absurd (none_some has)
live_as (Idle own) store has = ap (λ (s : Store). Some s.forest.body) (same_in has)
live_as (Hollow own) store has = ap (λ (s : Store). Some s.forest.body) (same_in has)
live_as (Pending r) store has = ap (λ (s : Store). Some s.forest.body) (same_in has)

-- what is the same is spared, however it ends
pub spared_all : (result : Reply) (live : Option Body) (files : Files) → IfErr result (Spares live files files)
spared_all (Ok reply) live files = tt
spared_all (Err stop) live files = spares_same live files stop

-- ---- such a command

pub record IsAsking (its : Command) : Type 0 where
  -- nothing that is known changes, and nothing that is reached
  pub stays : (world : World) → (act world its).0 ≡ world
  pub behind : (world : World) (reached : Reached) → reached_behind world reached its ≡ reached
  -- it costs the pages that its slice goes to, and makes no call where it has none answered
  pub costs : (world : World) (reached : Reached) (cost : Cost) → Costs world reached its cost → ReadsFor reached.format world its cost
  pub uncalled : (world : World) (reached : Reached) → MakesNoCall world reached its → asked_slice world its ≡ None
  pub effect : effect_of its ≡ asks_effect

module _ (its : Command) (asking : IsAsking its) where
  never_writes : MayWrite its → ⊥
  never_writes writes = subst (λ (e : Effect). Does e.writes) asking.effect writes

  never_steps : IsStep its → ⊥
  never_steps steps = subst (λ (e : Effect). Does e.moves) asking.effect steps

  never_silent : TellsNone its → ⊥
  never_silent none = subst (λ (e : Effect). DoesNot e.tells) asking.effect none

  never_alone : RepliesAlone its → ⊥
  never_alone alone = subst (λ (e : Effect). DoesNot e.looks) asking.effect alone

  made_same : (made : ℕ) → made_alone its made ≡ made
  made_same made = ap (λ (e : Effect). cond e.ends 0 made) asking.effect

-- ---- it only answers

goes_nowhere : (format : ℕ) (kept : Kept) (numbers : List ℕ) → GoesFrom format kept None numbers → ⊥
goes_nowhere format None numbers goes = goes
goes_nowhere format (Some warehouse) numbers goes = goes

module _ {S : Type 0} (T : Ghosts S) (levels : List Level) (site : S) (state : State) (its : Command) (asking : IsAsking its) (reply : List ℕ) where
  pub only_says : (k : Option Store) → store_of state ≡ k → ((world : World) → KeptBy levels k (T.disk site) world → ((act world its).1 ≡ reply) × (asked_slice world its ≡ None))
      → ((files : Files) → Gives levels state files its reply) → OnlySaysWith T levels its state site reply
  only_says k has over gives =
      let its_world : (world : World) → world.levels ≡ levels → Stands state (T.disk site) world → ((act world its).1 ≡ reply) × (asked_slice world its ≡ None)
      = λ world known stands. over world (kept_over levels state k (T.disk site) world known has stands) in
      record {
        acts = λ t world known stands. says_just world reply (act world its) (λ i. (asking.stays world i, (its_world world known stands).0 i));
        moves = λ t world stands. asking.behind world (reached_by state);
        goes = λ t world known stands numbers goes. goes_nowhere (format_of state) world.kept numbers (subst (λ (a : Option Slice). GoesFrom (format_of state) world.kept a numbers) (its_world world known stands).1 goes);
        gives = gives;
        alone = λ none. made_same its asking (moves_made state);
      }

-- ---- it goes to pages

damaged_no_fault : {A : Type 0} (file offset : ℕ) → IsErrOf {T = A} (Err (AnswerStop.Damaged file offset)) AnswerStop.Disk → ⊥
damaged_no_fault file offset is = cc

memory_no_fault : {A : Type 0} → IsErrOf {T = A} (Err AnswerStop.Memory) AnswerStop.Disk → ⊥
memory_no_fault is = cc

module _ {S : Type 0} (T : Ghosts S) (old new : S) (store : Store) (before after : Cache) (s : Slice) where
  abbrev pub Known : Type 0 → Type 0
  Known P = IsTrue T.tells → Agrees (T.disk old).files before → P

  abbrev pub Stored : (List Fact → Type 0) → Type 0
  Stored P = Known ((facts : List Fact) → IsStoreOf store facts (T.disk old).files → P facts)

  abbrev pub Visited : (List ℕ → Type 0) → Type 0
  Visited P = Known ((view : ℕ) → IsPicked store.forest.schema.views store.forest.body.counts s view → P (visits_of store s view (T.disk old).files))

  -- what the answer to its slice promises
  abbrev pub Answers : Result (List Row) AnswerStop → Type 0
  Answers answer = AnswersFrom T (λ counts view. IsPicked store.forest.schema.views counts s view) store s old new before after answer

  -- what is told of it, where some view covers the slice
  pub record Ends (levels : List Level) (state : State) (its : Command) (result : Reply) : Type 0 where
    pub replied : Known ((world : World) → IsKept levels store (T.disk old) world → IfOk result (λ reply. reply.items ≡ (act world its).1))
    pub undamaged : Stored (λ facts. IfErr result IsNoDamage)
    pub keeps : Visited (λ numbers. OnOk result (KeepsUp before after (side_of store.forest.body) numbers))
    pub damage : Known (IfErr result (TellsDamage levels state (T.disk old).files its))
    pub answered : Known (IfOk result (λ reply. Gives levels state (T.disk old).files its reply.items))
    pub quiet : IsQuiet T old new result

  -- some view does
  module _ (covers : is_covered store.forest.schema s ≡ true) where
    pub picked : (view : ℕ) × IsPicked store.forest.schema.views store.forest.body.counts s view
    picked = let some = some-covers store.forest.schema s covers in picked-one store.forest.schema.views store.forest.body.counts s some.0 some.1

    -- the tree of the view picked is searched
    pub searched : (answer : Result (List Row) AnswerStop) → Answers answer → SearchesView T store s picked.0 old new before after answer
    searched answer is = is.search picked.0 picked.1

    pub not_uncovered : Answers (Err AnswerStop.NotCovered) → ⊥
    not_uncovered is = let some = some-covers store.forest.schema s covers in is.uncovered.0 refl some.0 some.1

    module _ (levels : List Level) (state : State) (its : Command) where
      stops_by : (answer : Result (List Row) AnswerStop) → Answers answer → (stop : Stop) → StopCause (T.disk_faults old) (T.disk_faults new) (T.told_faults old) (T.told_faults new) stop
          → Stored (λ facts. IsNoDamage stop) → Known (TellsDamage levels state (T.disk old).files its stop) → Ends levels state its (Err stop)
      stops_by answer is stop cause undamaged damage =
          let looks = (searched answer is).tree.looks in
          record {
            replied = λ t agree world kept. tt;
            undamaged = undamaged;
            keeps = λ t agree view picks. tt;
            damage = damage;
            answered = λ t agree. tt;
            quiet = record { told = λ t. (looks.disk t).told; cause = cause; disk_faults = tt; told_faults = looks.told_faults };
          }

      -- a stop that names no damage
      harmless : (stop : Stop) → IsNoDamage stop → Known (TellsDamage levels state (T.disk old).files its stop)
      harmless stop none t agree = tells_none levels state (T.disk old).files its stop none

      -- rows were found, and then it stops
      pub stops_behind : (found : List Row) → Answers (Ok found) → (stop : Stop) → ((faults output : ℕ) → StopCause faults faults output output stop)
          → Stored (λ facts. IsNoDamage stop) → Known (TellsDamage levels state (T.disk old).files its stop) → Ends levels state its (Err stop)
      stops_behind found is stop cause undamaged damage =
          let looks = (searched (Ok found) is).tree.looks in
          stops_by (Ok found) is stop (subst₂ (λ disk told. StopCause (T.disk_faults old) disk (T.told_faults old) told stop) (sym looks.cause.ok) (sym looks.told_faults) (cause (T.disk_faults old) (T.told_faults old))) undamaged damage

      -- no rows were found; `spoils` tells what damage of the slice is for the command
      pub stop_ends : ((file offset : ℕ) → IsSpoiltAt store (T.disk old).files (Some s) file offset → TellsDamage levels state (T.disk old).files its (Stop.Damaged file offset))
          → (answer : Result (List Row) AnswerStop) → Answers answer → Ends levels state its (Err (answer_stop answer))
      stop_ends spoils (Ok found) is = stops_behind found is Stop.Memory (λ faults output. (refl, refl)) (λ t agree facts stored. tt) (harmless Stop.Memory tt)
      stop_ends spoils (Err AnswerStop.NotCovered) is = absurd (not_uncovered is)
      stop_ends spoils (Err AnswerStop.Disk) is =
          let looks = (searched (Err AnswerStop.Disk) is).tree.looks in
          stops_by (Err AnswerStop.Disk) is Stop.Disk ((looks.cause.failed refl, looks.cause.once), looks.told_faults) (λ t agree facts stored. tt) (harmless Stop.Disk tt)
      stop_ends spoils (Err (AnswerStop.Damaged file offset)) is =
          let looks = (searched (Err (AnswerStop.Damaged file offset)) is).tree.looks in
          stops_by (Err (AnswerStop.Damaged file offset)) is (Stop.Damaged file offset) (looks.cause.other (damaged_no_fault file offset), looks.told_faults) is.undamaged
          (λ t agree. spoils file offset (is.judged t agree))
      stop_ends spoils (Err AnswerStop.Memory) is =
          let looks = (searched (Err AnswerStop.Memory) is).tree.looks in
          stops_by (Err AnswerStop.Memory) is Stop.Memory (looks.cause.other memory_no_fault, looks.told_faults) (λ t agree facts stored. tt) (harmless Stop.Memory tt)

      -- rows were found, and a reply is made of them
      pub replies_behind : (found : List Row) → Answers (Ok found) → (reply : Vec ℕ Global) → Known ((world : World) → IsKept levels store (T.disk old) world → reply.items ≡ (act world its).1)
          → Known (Gives levels state (T.disk old).files its reply.items) → Ends levels state its (Ok reply)
      replies_behind found is reply replied answered =
          let looks = (searched (Ok found) is).tree.looks in
          record {
            replied = replied;
            undamaged = λ t agree facts stored. tt;
            keeps = λ t agree view picks. (is.search view picks).tree.keeps t agree;
            damage = λ t agree. tt;
            answered = answered;
            quiet = record { told = λ t. (looks.disk t).told; cause = tt; disk_faults = looks.cause.ok; told_faults = looks.told_faults };
          }

module _ {S : Type 0} (T : Ghosts S) (old new : S) (state : State) (store : Store) (before after : Cache) (s : Slice) (answer : Result (List Row) AnswerStop)
    (is : Answers T old new store before after s answer) (has : store_of state ≡ Some store) (its : Command) (asking : IsAsking its)
    (ready : IsReadyFor T old before state) (only : IsTrue T.tells → OnlyNow (T.disk old)) (result : Reply) where
  live : live_of state ≡ Some store.forest.body
  live = live_as state store has

  fitting : IsTrue T.tells → AreLive store.forest.body (T.disk old).files before
  fitting t = subst (λ (b : Option Body). FitsLive b (T.disk old).files before) live (ready.fits t)

  module _ (covers : is_covered store.forest.schema s ≡ true) (levels : List Level) (asked : asked_by store.forest.schema levels its ≡ Some s) (ends : Ends T old new store before after s levels state its result) where
    found : SearchesView T store s (picked T old new store before after s covers).0 old new before after answer
    found = searched T old new store before after s covers answer is

    fits : IsTrue T.tells → Fits state (T.disk new).files after
    fits t = subst (λ (b : Option Body). FitsLive b (T.disk new).files after) (sym live) (record { lie = found.tree.lies (fitting t).lie; agree = found.tree.agrees t (fitting t).agree })

    asks : asks_pages levels state its ≡ false → after ≡ before
    asks none = absurd (true≢false (sym (ap (λ (k : Option Store). is_asked (asked_from levels k its)) has ∙ ap is_asked asked) ∙ none))

    -- what is spent, saved and kept over the pages that it goes to
    abbrev Pages : Option Body → List ℕ → Type 0
    Pages body numbers = (T.reads new ≤ T.reads old + length numbers) × Saves before (live_file body) numbers (T.reads old) (T.reads new) × OnOk result (KeepsUp before after (live_file body) numbers)

    module _ (t : IsTrue T.tells) (world : World) (kept : IsKept levels store (T.disk old) world) where
      asks_slice : asked_slice world its ≡ Some s
      asks_slice = (λ i. asked_over (kept.kept i) (kept.leveled i) its) ∙ asked

      pages_over : (numbers : List ℕ) → GoesOver store.forest.body.format store.forest.schema kept.facts (Some s) numbers → Pages (live_of state) numbers
      pages_over numbers goes =
          let agree = (fitting t).agree in
          let picks = subst (λ (counts : List ℕ). IsPicked store.forest.schema.views counts s goes.0) (sym kept.stored.live.at.body_is.counts) goes.1 in
          let its_search = (is.search goes.0 picks).tree in
          subst (λ (b : Option Body). Pages b numbers) (sym live)
          (subst (Pages (Some store.forest.body)) (same-cost store s goes.0 goes.1.covering.0 kept.facts (T.disk old).files kept.stored ∙ sym goes.2)
          (its_search.visits t agree, its_search.saves t agree, ends.keeps t agree goes.0 picks))

      pages : (numbers : List ℕ) → GoesFrom (format_of state) world.kept (Some s) numbers → Pages (live_of state) numbers
      pages numbers goes = pages_over numbers (subst₂ (λ (b : Option Body) (k : Kept). GoesFrom (format_in b) k (Some s) numbers) live kept.kept goes)

      goes_to : (numbers : List ℕ) → GoesTo (format_of state) world its numbers → Pages (live_of state) numbers
      goes_to numbers goes = pages numbers (subst (λ (a : Option Slice). GoesFrom (format_of state) world.kept a numbers) asks_slice goes)

      spends : (cost : Cost) → ReadsFor (format_of state) world its cost → Spends T cost old new
      spends cost costs =
          let its = subst (λ (a : Option Slice). ReadsFrom (format_of state) world.kept a cost) asks_slice costs in
          record { reads = omega (arith, (pages its.0 its.1).0, ap (λ (c : Cost). c.reads) its.2); writes = omega (arith, found.tree.looks.writes) }

      answers_so : Stands state (T.disk old) world → IfOk result (λ reply. IsAnswer (T.disk new) (act world its) state reply.items)
      answers_so stands = IfOk-weaker result _ _
          (λ reply said. record {
            stands = subst (λ (w : World). Stands state (T.disk new) w) (sym (asking.stays world)) (stands_rests state (T.disk old) (T.disk new) world (found.tree.looks.disk t) stands);
            said = said;
          })
          (ends.replied t (fitting t).agree world kept)

      by_world : Stands state (T.disk old) world → ByWorld T its world state state old new before after result
      by_world stands = record {
        answer = answers_so stands;
        any_moment = resting state (T.disk old) (T.disk new) world (act world its).0 stands (only t) (found.tree.looks.disk t);
        undamaged = ends.undamaged t (fitting t).agree kept.facts kept.stored;
        moved = holds result (sym (asking.behind world (reached_by state)));
        cost = λ cost costs. spends cost (asking.costs world (reached_by state) cost costs);
        uncalled = λ none. absurd (none_some (sym (asking.uncalled world (reached_by state) none) ∙ asks_slice));
        saves = λ numbers goes. (goes_to numbers goes).1;
        keeps = λ numbers goes. (goes_to numbers goes).2;
      }

    any_files : IsTrue T.tells → OverAnyFiles T levels its state state old new after result
    any_files t = record {
      damage = ends.damage t (fitting t).agree;
      answered = ends.answered t (fitting t).agree;
      spared = subst (λ (f : Files). IfErr result (Spares (live_of state) (T.disk old).files f)) (sym (found.tree.looks.disk t).files) (spared_all result (live_of state) (T.disk old).files);
      looks = λ none dry. found.tree.looks.disk t;
      settles = λ none. Changes-settles Stays (T.disk old) (T.disk new) result (found.tree.looks.disk t);
      fits = holds result (fits t);
    }

    side_stays : IsTrue T.tells → SideStays (live_of state) (T.disk old).files (T.disk new).files
    side_stays t = ap (λ (f : Files). f (live_file (live_of state))) (found.tree.looks.disk t).files

    pub carried : CarriesOutWith T levels its state state old new before after result
    carried = record {
      by_world = λ t world known stands. by_world t world (kept_over levels state (Some store) (T.disk old) world known has stands) stands;
      any_files = any_files;
      goes_on = record {
        runs = holds result (record { running = ready.runs.running; fit = λ t. fit_rests state (T.disk old) (T.disk new) (found.tree.looks.disk t) (ready.runs.fit t) });
        stays = λ leaves. holds result refl;
        schema = λ declared same. holds result same;
        cache = λ none. holds result (asks none ∙ sym (kept_same (live_of state) (live_of state) before refl));
        capacity = found.tree.capacity;
        unwritten = λ none. found.tree.looks.writes;
        quiet = ends.quiet;
      };
      leaves = record {
        made = λ no. holds result (sym (made_same its asking (moves_made state)));
        live = λ same. holds result refl;
        harmless = λ none. absurd (never_silent its asking none);
        said = λ alone files. absurd (never_alone its asking alone);
        unasked = λ none nothing. asks nothing;
        fits = λ t none dry. fits t;
        side = λ t same. holds result (side_stays t);
        step_side = λ t step. absurd (never_steps its asking step);
      };
    }
