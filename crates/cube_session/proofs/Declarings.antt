-- A schema is declared in files that keep none.
use Rattle.spec_crash.specs.Keeps.{IsFrom}
use Rattle.cube_session.proofs.Names.{declared_text, Vec, Global, Result, List, sym, subst, ap, Some, ◌∙◌, None, ◌≡◌, ℕ, [], inr, refl, arith, Bool, true, cond, inl, Ok, IsTrue, Err, IfErr, ◌⊎◌}
use Rattle.cube_session.proofs.Names.{IfOk, OnOk, nat_lt, IsErrOf, IsErrAnd, wider, stable_holds, HasCauseWhere, CallsOnly, IsStable, LeavesOnly, Ghosts, IsSchema, schema_of, Schema, SchemaRefusal}
use Rattle.cube_session.proofs.Names.{Cache, Keeps, none_accepted, InitStop, KeepsNothing, Store, KeepsFacts, IsOpened, IsStoreOf, IsWhole, Whole, Command, line, act_schema, IsLawful, Answer, act}
use Rattle.cube_session.proofs.Names.{declare, declare_over, declared, empty, makes_stage, size, Kept, World, bare, kept_same, none_fit, quiet_out, spares_none, schema_cost, KeepsUp, Saves}
use Rattle.cube_session.proofs.Names.{kept_over, CarriesOut, IsReadyFor, Reply, Cost, Spends, free, IsQuiet, RunsOn, Belongs, Between, KeepsEither, Stands, IsAnswer, IsNoDamage, init_stop, GoesTo}
use Rattle.cube_session.proofs.Names.{State, Empty, Idle, Stop, ⊎_elim, subst₂}
use Rattle.cube_state.proofs.{Known.some_none, Writing.goes_nowhere}
use Rattle.cube_state.specs.Moves.{reached_by, unmoved}
use Rattle.cube_state.specs.Visits.{schema_of as schema_of_state}
use Rattle.cube_state.specs.Carried.{LeavesState}

-- ---- what the call promises

memory_no_disk : {A : Type 0} → IsErrOf {T = A} (Err InitStop.Memory) InitStop.Disk → ⊥
memory_no_disk same = absurd (cc)

vain : {P : Type 0} → (Unit {0} → ⊥) → P
vain none = absurd (none tt)

-- there is no schema before it
undeclared : {P : Type 0} (schema : Schema) → schema_of_state Empty ≡ Some schema → P
undeclared schema is = absurd (cc)

module _ {S : Type 0} (T : Ghosts S) (schema : Schema) (old new : S) where
  pub record Inits (answer : Result Store InitStop) : Type 0 where
    pub stored : IsTrue T.tells → IfOk answer (λ store. IsStoreOf store [] (T.disk new).files)
    pub any_moment : IsTrue T.tells → LeavesOnly (T.disk old) (T.disk new) (λ told files. (told ≡ (T.disk old).told) × (KeepsNothing files ⊎ KeepsFacts schema [] 0 files))
    pub schema_is : IfOk answer (λ store. store.forest.schema ≡ schema)
    pub first : IfOk answer (λ store. store.forest.body.generation ≡ 0)
    pub format : IfOk answer (λ store. store.forest.body.format ≡ 1)
    pub last : IfOk answer (λ store. store.forest.body.last ≡ 0)
    pub whole : IfOk answer IsWhole
    pub opened : IsTrue T.tells → IfOk answer (λ store. IsOpened store.forest.body (T.disk new))
    pub stable : IsTrue T.tells → OnOk answer (IsStable (T.disk new))
    pub told : IsTrue T.tells → (T.disk new).told ≡ (T.disk old).told
    pub calls : CallsOnly T (HasCauseWhere InitStop.Disk) 1 5 old new answer

  stopped_so : (why : InitStop) → Inits (Err why) → IsQuiet {A = Vec ℕ Global} T old new (Err (init_stop why))
  stopped_so InitStop.Disk is = record { told = is.told; cause = ((is.calls.cause.failed refl, is.calls.cause.once), is.calls.told_faults); disk_faults = tt; told_faults = is.calls.told_faults }
  stopped_so InitStop.Memory is = record { told = is.told; cause = (is.calls.cause.other memory_no_disk, is.calls.told_faults); disk_faults = tt; told_faults = is.calls.told_faults }

undamaged : (why : InitStop) → IsNoDamage (init_stop why)
undamaged InitStop.Disk = tt
undamaged InitStop.Memory = tt

-- no facts keep all limits
empty_lawful : (schema : Schema) → IsSchema schema → IsLawful (empty schema)
empty_lawful schema lawful = record { schema = lawful; accepted = none_accepted schema; last = omega arith }

-- ---- the command

module _ {S : Type 0} (T : Ghosts S) (schema : Schema) (lawful : IsSchema schema) (bytes : List ℕ) (read : schema_of bytes ≡ Ok schema) (old new : S) (cache : Cache)
    (answer : Result Store InitStop) (is : Inits T schema old new answer) (command : Command) (state : State) (said : command ≡ Command.Schema (Whole bytes)) (was : state ≡ Empty) where
  abbrev its : Command
  its = Command.Schema (Whole bytes)

  acts : (world : World) → world.kept ≡ None → act world its ≡ declared world (Ok schema)
  acts world none = act_schema world (Whole bytes) ∙ ap (λ (kept : Kept). declare_over world kept (Whole bytes)) none ∙ ap (declared world) read

  keeps_some : (world : World) → world.kept ≡ None → (act world its).0.kept ≡ Some (empty schema)
  keeps_some world none = ap (λ (a : Answer). a.0.kept) (acts world none)

  moment : IsTrue T.tells → (world : World) → Stands Empty (T.disk old) world → Between 1 (T.disk old) (T.disk new) world (act world its).0
  moment t world stands = wider (T.disk old) (T.disk new) _ (λ told files. (told ≡ (T.disk old).told) × KeepsEither world (act world its).0 files × IsFrom 1 files)
      (λ told files both. (
        both.0,
        ⊎_elim (λ nothing. inl (subst (Keeps files) (sym stands.0.kept) nothing))
            (λ kept. inr (subst (Keeps files) (sym (keeps_some world stands.0.kept)) (record { lawful = empty_lawful schema lawful; kept = kept }))) both.1,
        λ body live. live.decodes.1.within.some_format,
      ))
      (is.any_moment t)

  makes_one : (world : World) → world.kept ≡ None → makes_stage world its ≡ true
  makes_one world none = λ i. nat_lt (size (none i)) (size (keeps_some world none i))

  spends : IsTrue T.tells → (world : World) → Stands Empty (T.disk old) world → (cost : Cost) → cost ≡ schema_cost world its → Spends T cost old new
  spends t world stands cost same = subst (λ (c : Cost). Spends T c old new) (sym (same ∙ ap (λ (b : Bool). cond b (record { reads = 1; writes = 5 }) free) (makes_one world stands.0.kept)))
      (record { reads = is.calls.reads; writes = is.calls.writes })

  -- it goes to no page
  no_pages : (P : List ℕ → Type 0) (world : World) (numbers : List ℕ) → GoesTo 1 world its numbers → P numbers
  no_pages P world numbers goes = absurd (goes_nowhere its (λ schema levels. refl) 1 world numbers goes)

  -- and makes a call
  called : (P : Type 0) (world : World) → world.kept ≡ None → (act world its).0.kept ≡ world.kept → P
  called P world none same = absurd (some_none (sym (keeps_some world none) ∙ same ∙ none))

  -- it stops
  fails : (next : State) (stop : Stop) → IsNoDamage stop → IsQuiet {A = Vec ℕ Global} T old new (Err stop) → CarriesOut T its Empty next old new cache cache (Err stop)
  fails next stop no_damage quiet levels = record {
    by_world = λ t world known stands. assumption (no_damage, moment t world stands, spends t world stands, no_pages (λ numbers. Saves cache 2 numbers (T.reads old) (T.reads new)) world);
    any_files = λ t. record {
      damage = no_damage;
      answered = tt;
      spared = spares_none None (T.disk old).files (T.disk new).files stop no_damage;
      looks = λ no dry. vain no;
      settles = λ no. vain no;
      fits = tt;
    };
    goes_on = search (quiet, vain, λ (leaves : LeavesState its). tt {0});
    leaves = record {
      made = λ no. tt;
      live = λ same. tt;
      harmless = λ none. no_damage;
      said = λ alone files. tt;
      unasked = λ no nothing. vain no;
      fits = λ t no dry. vain no;
      side = λ t same. tt;
      step_side = λ t step. absurd step;
    };
  }

  by_said : (next : State) (result : Reply) → CarriesOut T its Empty next old new cache cache result → CarriesOut T command state next old new cache cache result
  by_said next result done = subst₂ (λ (k : Command) (s : State). CarriesOut T k s next old new cache cache result) (sym said) (sym was) done

  stops_with : (stop : Stop) → IsNoDamage stop → IsQuiet {A = Vec ℕ Global} T old new (Err stop) → (next : State) (result : Reply) → IsErrAnd result (λ s. s ≡ stop)
      → CarriesOut T its Empty next old new cache cache result
  stops_with stop no_damage quiet next (Ok reply) same = absurd same
  stops_with stop no_damage quiet next (Err other) same = subst (λ (s : Stop). CarriesOut T its Empty next old new cache cache (Err s)) (sym same) (fails next stop no_damage quiet)

  pub fails_as : (why : InitStop) → answer ≡ Err why → (result : Reply) → IsErrAnd result (λ stop. stop ≡ init_stop why) → CarriesOut T command state state old new cache cache result
  fails_as why failed result stop = by_said state result
      (stops_with (init_stop why) (undamaged why) (stopped_so T schema old new why (subst (Inits T schema old new) failed is)) state result stop)

  module _ (ready : IsReadyFor T old cache state) (store : Store) (at : Inits T schema old new (Ok store)) where
    belongs : IsTrue T.tells → Belongs store (T.disk new) (empty schema)
    belongs t = record {
      lawful = empty_lawful schema lawful;
      schema = at.schema_is;
      last = at.last;
      stored = stable_holds (IsStoreOf store []) (T.disk new) (at.stable t) (at.stored t);
      opened = at.opened t;
    }

    quiet : {A : Type 0} (x : A) → IsQuiet T old new (Ok x)
    quiet x = record { told = at.told; cause = tt; disk_faults = at.calls.cause.ok; told_faults = at.calls.told_faults }

    -- it is declared
    declares : (reply : Vec ℕ Global) → reply.items ≡ line declared_text → CarriesOut T its Empty (Idle store) old new cache cache (Ok reply)
    declares reply text levels =
        let gives : reply.items ≡ (declare (bare None) (Whole bytes)).1 = text ∙ ap (λ (r : Result Schema SchemaRefusal). (declared (bare None) r).1) (sym read) in
        let runs : RunsOn T new (Idle store) = record { running = at.whole; fit = at.opened } in
        let cached : cache ≡ kept_over None (Some store.forest.body) cache = sym (kept_same None (Some store.forest.body) cache at.first) in
        record {
          by_world = λ t world known stands.
              let is : IsAnswer (T.disk new) (act world its) (Idle store) reply.items = record {
                stands = subst (λ (a : Answer). Stands (Idle store) (T.disk new) a.0) (sym (acts world stands.0.kept)) (empty schema, record { kept = refl; pending = stands.0.pending }, belongs t);
                said = text ∙ ap (λ (a : Answer). a.1) (sym (acts world stands.0.kept));
              } in
              let moved : reached_by (Idle store) ≡ unmoved 1 = ap unmoved at.format in
              assumption (
                is,
                moved,
                moment t world stands,
                spends t world stands,
                called (new ≡ old) world stands.0.kept,
                no_pages (λ numbers. Saves cache 2 numbers (T.reads old) (T.reads new)) world,
                no_pages (KeepsUp cache cache 2) world,
              );
          any_files = λ t. record {
            damage = tt;
            answered = gives;
            spared = tt;
            looks = λ no dry. vain no;
            settles = λ no. vain no;
            fits = none_fit (Some store.forest.body) (T.disk new).files cache ((subst (IsReadyFor T old cache) was ready).fits t);
          };
          goes_on = search (runs, cached, quiet reply, vain, undeclared, λ (leaves : LeavesState its). absurd {A = Idle store ≡ Empty} leaves.0);
          leaves = record {
            made = λ no. refl;
            live = λ same. absurd same;
            harmless = λ none. tt;
            said = λ alone files. absurd alone;
            unasked = λ no nothing. vain no;
            fits = λ t no dry. vain no;
            side = λ t same. absurd same;
            step_side = λ t step. absurd step;
          };
        }

    -- and memory may run out for the reply
    declares_or_out : (result : Reply) → IfOk result (λ reply. reply.items ≡ line declared_text) → IfErr result (λ stop. stop ≡ Stop.Memory) → CarriesOut T its Empty (Idle store) old new cache cache result
    declares_or_out (Ok reply) text memory = declares reply text
    declares_or_out (Err stop) text memory = stops_with Stop.Memory tt (quiet_out (quiet store)) (Idle store) (Err stop) memory

    pub declares_as : (next : State) → next ≡ Idle store → (result : Reply) → IfOk result (λ reply. reply.items ≡ line declared_text) → IfErr result (λ stop. stop ≡ Stop.Memory)
        → CarriesOut T command state next old new cache cache result
    declares_as next same result text memory = by_said next result (subst (λ (n : State). CarriesOut T its Empty n old new cache cache result) (sym same) (declares_or_out result text memory))
