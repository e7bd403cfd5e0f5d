-- What opening the files makes of a session.
use Rattle.cube_session.proofs.Names.{Option, Result, List, sym, subst, ap, Some, ◌∙◌, None, ◌≡◌, ℕ, [], length, refl, Ok, IsTrue, Err, IfErr, ◌≤◌, ◌+◌, ◌^◌, IfSome, IfOk, OnOk, ◌≢◌, IsErrOf}
use Rattle.cube_session.proofs.Names.{stable_holds, Settles, Stays, HasCauseWhere, Files, CallsOnly, IsStable, Ghosts, Fact, IsSchema, Schema, Keeps, BreaksAt, IsWarehouse, MayBeOpened, NamesPlace}
use Rattle.cube_session.proofs.Names.{Place, names_pages, OpenStop, NoneRaised, Store, AreAccepted, KeepsFacts, names_text, IsStoreOf, IsWhole, Kept, bare, none_fit, live_of, RunsOn, moves_made}
use Rattle.cube_session.proofs.Names.{Stands, open_stop, Stop, IsOpenUndamaged, TellsOpenBreak}
use Rattle.cube_state.specs.Audits.{open_cost}
use Rattle.cube_session.specs.Session.{Runs, StandsFor, Starts, moves_for, opened_held, opened_state}
use Rattle.cube_session.specs.declared.held.Held.{Held}
use Rattle.cube_state.specs.Levels.{FitSchema}
use Rattle.cube_state.specs.Visits.{schema_of}
use Rattle.roll_up.proofs.Lawful.{fits-none}
use Rattle.cube_session.specs.declared.session.Session.{Session}
use Rattle.cube_state.proofs.Known.{some_none}
use Rattle.forest_root.specs.Live.{IsLiveBody}
use Rattle.cube_state.specs.Moves.{FromFormat, reached_by}
use Rattle.cube_state.proofs.Moves.{live_root}
use Rattle.cube_session.specs.Session.{reached_for}
use Rattle.forest_open.specs.Judging.{IsFound}

-- ---- opening

-- by what the files keep
by_kept : (P : Kept → Type 0) (files : Files) (kept : Kept) → Keeps files kept → (NoneRaised (files 0) → P None)
    → ((schema : Schema) (facts : List Fact) (last : ℕ) → IsSchema schema → AreAccepted schema facts → KeepsFacts schema facts last files → P (Some (record { schema = schema; facts = facts; last = last })))
    → P kept
by_kept P files None keeps none some = none keeps
by_kept P files (Some warehouse) keeps none some = some warehouse.schema warehouse.facts warehouse.last keeps.lawful.schema keeps.lawful.accepted keeps.kept

damaged_no_disk : {A : Type 0} (file offset : ℕ) → IsErrOf {T = A} (Err (OpenStop.Damaged file offset)) OpenStop.Disk → ⊥
damaged_no_disk file offset same = absurd (cc)

memory_no_disk : {A : Type 0} → IsErrOf {T = A} (Err OpenStop.Memory) OpenStop.Disk → ⊥
memory_no_disk same = absurd (cc)

ok_no_output : {A : Type 0} (x : A) → IsErrOf (Ok x) Stop.Output → ⊥
ok_no_output x same = absurd (cc)

no_output : {A : Type 0} (why : OpenStop) → IsErrOf {T = A} (Err (open_stop why)) Stop.Output → ⊥
no_output OpenStop.Disk same = absurd (cc)
no_output (OpenStop.Damaged file offset) same = absurd (cc)
no_output OpenStop.Memory same = absurd (cc)

module _ {S : Type 0} (T : Ghosts S) (old new : S) where
  abbrev KeptBefore : (Schema → List Fact → ℕ → Type 0) → Type 0
  KeptBefore P = IsTrue T.tells → (schema : Schema) (facts : List Fact) (last : ℕ) → IsSchema schema → AreAccepted schema facts → KeepsFacts schema facts last (T.disk old).files → P schema facts last

  -- what it promises
  pub record Opens (answer : Result (Option Store) OpenStop) : Type 0 where
    pub warehouse : KeptBefore (λ schema facts last. IfOk answer (IsWarehouse schema facts last (T.disk new).files))
    pub undamaged : KeptBefore (λ schema facts last. IfErr answer IsOpenUndamaged)
    pub none : IsTrue T.tells → NoneRaised ((T.disk old).files 0) → IfOk answer (λ found. found ≡ None) × IfErr answer IsOpenUndamaged
    pub broken : IsTrue T.tells → (place : Place) → BreaksAt (T.disk old).files place → IfErr answer (NamesPlace place) × OnOk answer ⊥
    pub damaged : IsTrue T.tells → IfErr answer (TellsOpenBreak (T.disk old).files)
    pub found : IsTrue T.tells → IfOk answer (IsFound (T.disk old).files)
    pub opened : IsTrue T.tells → IfOk answer (λ found. MayBeOpened found (T.disk new))
    pub whole : IfOk answer (λ found. IfSome found IsWhole)
    pub stable : IsTrue T.tells → OnOk answer (IsStable (T.disk new))
    pub disk : IsTrue T.tells → Settles Stays (T.disk old) (T.disk new) answer
    pub unchanged : IsTrue T.tells → IfErr answer (λ stop. stop ≢ OpenStop.Disk → (T.disk new).files ≡ (T.disk old).files)
    pub calls : CallsOnly T (HasCauseWhere OpenStop.Disk) (1 + 2 ^ 36) 0 old new answer
    pub reads : IsTrue T.tells → (schema : Schema) (facts : List Fact) (last : ℕ) → KeepsFacts schema facts last (T.disk old).files → T.reads new ≤ T.reads old + (1 + names_pages (length (names_text schema facts)))
    pub reads_none : IsTrue T.tells → NoneRaised ((T.disk old).files 0) → T.reads new ≤ T.reads old + 1
    pub writes : T.writes new ≡ T.writes old

  costs : (answer : Result (Option Store) OpenStop) → Opens answer → IsTrue T.tells → (kept : Kept) → Keeps (T.disk old).files kept → T.reads new ≤ T.reads old + open_cost kept
  costs answer is t kept keeps = by_kept (λ k. T.reads new ≤ T.reads old + open_cost k) (T.disk old).files kept keeps (is.reads_none t) (λ schema facts last lawful accepted. is.reads t schema facts last)

  -- ---- it succeeds

  opened_stands : (found : Option Store) → Opens (Ok found) → IsTrue T.tells → (kept : Kept) → Keeps (T.disk old).files kept → Stands (opened_state found) (T.disk new) (bare kept)
  opened_stands None is t None keeps = (record { kept = refl; pending = refl }, is.opened t)
  opened_stands None is t (Some warehouse) keeps = absurd (is.warehouse t warehouse.schema warehouse.facts warehouse.last keeps.lawful.schema keeps.lawful.accepted keeps.kept)
  opened_stands (Some store) is t None keeps = absurd (some_none (is.none t keeps).0)
  opened_stands (Some store) is t (Some warehouse) keeps =
      let its = is.warehouse t warehouse.schema warehouse.facts warehouse.last keeps.lawful.schema keeps.lawful.accepted keeps.kept in
      let stored = stable_holds (IsStoreOf store warehouse.facts) (T.disk new) (is.stable t) its.stored in
      (warehouse, record { kept = refl; pending = refl }, record { lawful = keeps.lawful; schema = its.schema_is; last = its.last_is; stored = stored; opened = is.opened t })

  opened_runs : (found : Option Store) → Opens (Ok found) → RunsOn T new (opened_state found)
  opened_runs None is = record { running = tt; fit = is.opened }
  opened_runs (Some store) is = record { running = is.whole; fit = is.opened }

  opened_moves : (found : Option Store) → moves_made (opened_state found) ≡ 0
  opened_moves None = refl
  opened_moves (Some store) = refl

  opened_reached : (found : Option Store) → Opens (Ok found) → IsTrue T.tells → (kept : Kept) → Keeps (T.disk old).files kept
      → FromFormat (T.disk old).files kept (λ reached. reached_by (opened_state found) ≡ reached)
  opened_reached None is t None keeps = record { format = 1; has = refl; holds = refl }
  opened_reached None is t (Some warehouse) keeps = absurd (is.warehouse t warehouse.schema warehouse.facts warehouse.last keeps.lawful.schema keeps.lawful.accepted keeps.kept)
  opened_reached (Some store) is t None keeps = absurd (some_none (is.none t keeps).0)
  opened_reached (Some store) is t (Some warehouse) keeps =
      let its = is.warehouse t warehouse.schema warehouse.facts warehouse.last keeps.lawful.schema keeps.lawful.accepted keeps.kept in
      let live = live_root store.forest.schema store.forest.body warehouse.facts (T.disk new).files its.stored.live in
      record { format = store.forest.body.format; has = (store.forest.body, subst (λ (f : Files). IsLiveBody store.forest.body (f 0)) (is.disk t).files live, refl); holds = refl }

  opened_fits : (found : Option Store) → FitSchema (schema_of (opened_state found)) []
  opened_fits None = refl
  opened_fits (Some store) = fits-none store.forest.schema [] refl store.forest.lawful

  pub starts : (most : ℕ) (found : Option Store) (session : Session) → Opens (Ok found) → session.held ≡ Some (opened_held found) → session.pages.capacity ≡ most → session.pages.kept ≡ []
      → Starts T most old new (Ok session)
  starts most found session is state capacity empty = record {
    opened = λ t kept keeps. subst (λ (h : Option Held). StandsFor h (T.disk new) (bare kept)) (sym state) (record { stands = opened_stands found is t kept keeps; levels = refl });
    undamaged = λ t kept keeps. tt;
    broken = λ t place breaks. absurd (is.broken t place breaks).1;
    damaged = λ t. tt;
    cost = costs (Ok found) is;
    found = λ t. record { found = found; is_found = is.found t; has = state };
    runs = subst (λ (h : Option Held). Runs T new h session.pages) (sym state) (record {
      ready = record { runs = opened_runs found is; fits = λ t. none_fit (live_of (opened_state found)) (T.disk new).files session.pages empty };
      fit = opened_fits found;
    });
    moved = ap moves_for state ∙ opened_moves found;
    reached = λ t kept keeps. subst (λ (h : Option Held). FromFormat (T.disk old).files kept (λ reached. reached_for h ≡ reached)) (sym state) (opened_reached found is t kept keeps);
    cache = capacity;
    empty = empty;
    disk = λ t. assumption (is.disk t);
    unchanged = λ t. tt;
    quiet = record { told = λ t. (is.disk t).told; cause = tt; disk_faults = is.calls.cause.ok; told_faults = is.calls.told_faults };
    no_output = ok_no_output session;
    writes = is.writes;
  }

  -- ---- it fails

  module _ (why : OpenStop) (is : Opens (Err why)) where
    undamaged : IsTrue T.tells → (kept : Kept) → Keeps (T.disk old).files kept → IsOpenUndamaged why
    undamaged t kept keeps = by_kept (λ k. IsOpenUndamaged why) (T.disk old).files kept keeps (λ none. (is.none t none).1) (is.undamaged t)

    settled : IsTrue T.tells → Settles {A = Session} {E = Stop} Stays (T.disk old) (T.disk new) (Err (open_stop why))
    settled t = assumption (is.disk t)

    unchanged : IsTrue T.tells → open_stop why ≢ Stop.Disk → (T.disk new).files ≡ (T.disk old).files
    unchanged t other = is.unchanged t (λ same. other (ap open_stop same))

    told : IsTrue T.tells → (T.disk new).told ≡ (T.disk old).told
    told t = (is.disk t).told

    faults : (IsErrOf {T = Option Store} (Err why) OpenStop.Disk → ⊥) → (T.disk_faults new ≡ T.disk_faults old) × (T.told_faults new ≡ T.told_faults old)
    faults other = (is.calls.cause.other other, is.calls.told_faults)

  pub starts_not : (most : ℕ) (why : OpenStop) → Opens (Err why) → Starts T most old new (Err (open_stop why))
  starts_not most OpenStop.Disk is = assumption (
    settled OpenStop.Disk is,
    costs (Err OpenStop.Disk) is,
    unchanged OpenStop.Disk is,
    told OpenStop.Disk is,
    no_output {A = Session} OpenStop.Disk,
    is.calls.cause.failed refl,
    is.calls.cause.once,
    is,
  )
  starts_not most (OpenStop.Damaged file offset) is =
      let why : OpenStop = OpenStop.Damaged file offset in
      assumption (undamaged why is, settled why is, costs (Err why) is, unchanged why is, told why is, no_output {A = Session} why, faults why is (damaged_no_disk file offset), is)
  starts_not most OpenStop.Memory is = assumption (
    settled OpenStop.Memory is,
    costs (Err OpenStop.Memory) is,
    unchanged OpenStop.Memory is,
    told OpenStop.Memory is,
    no_output {A = Session} OpenStop.Memory,
    faults OpenStop.Memory is memory_no_disk,
    is,
  )
