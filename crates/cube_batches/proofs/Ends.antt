-- The pending batch moves on, is committed, or is dropped.
use Rattle.script_lang.specs.declared.command.Command.TheVariants as says
use Rattle.cube_state.specs.declared.stop.Stop.TheVariants as stops
use Rattle.forest_refresh.specs.declared.stop.RefreshStop.TheVariants as ends
use Rattle.cube_batches.proofs.Names.{◌-◌, ◌<◌, ◌∙◌, ◌∷◌, ◌≡◌, ◌≤◌, Answer, Attends, Begun, Belongs, CarriesOutAlone, Command, Cost, Disk, Empty, Ends, Err, Fact, Files, ForEach, Forest}
use Rattle.cube_batches.proofs.Names.{Ghosts, Gives, Global, HasNoFact, Hollow, Idle, IsDropped, IsGoing, IsOpened, IsReady, IsRefreshOf, IsStoreOf, IsTrue, IsWithout}
use Rattle.cube_batches.proofs.Names.{Kept, Knows, List, None, Ok, OnlyNow, Option, Pending, RefreshStop, Result, RunsFor, RunsOn, Schema, SideStays, Some, Spares}
use Rattle.cube_batches.proofs.Names.{Spends, Stands, State, Store, Vec, Warehouse, World, [], act, act_abandon, act_finish, act_step, ap, arith, asked_by}
use Rattle.cube_batches.proofs.Names.{attends_belongs, beside, codes, committed, committed_text, holds_to, length, line, live_of, made_alone, moves_made, moves_over, moves_tried, page_total}
use Rattle.cube_batches.proofs.Names.{pending_line, pending_over, refl, refresh_stop, replied, replies_with, spared_stays, stopped, subst, sym, ℕ}
use Rattle.cube_batches.proofs.Names.{Level, schema_of}
use Rattle.cube_batches.proofs.{Calls.answered_by, Calls.rests, Calls.side_spares, Takings.begin_moments, Takings.later_for}
use Rattle.cube_state.proofs.BatchCosts.{finish_answer, finish_is, finish_reaches, step_made, step_spends}
use Rattle.cube_batches.proofs.{Loads.empty_answer, Loads.same_facts, Calls.IsStill, Committed.refresh_quiet, Committed.refresh_quiet_on, Committed.refresh_tells, Committed.same_damage}
use Rattle.forest_refresh.specs.Steps.{Steps}
use Rattle.cube_state.specs.BatchCosts.{commit_cost}
use Rattle.cube_state.specs.Moves.{format_behind, format_of, reached_behind, reached_by, unmoved}
use Rattle.spec_moves.specs.Forest.{forest_moves}
use Rattle.spec_store.specs.Held.{format_for}
use Rattle.cube_batches.specs.declared.committing.Told.TheVariants.{Committed}
use Rattle.cube_state.proofs.Moves.{format_stays, reached_next}
use Rattle.cube_state.specs.Carried.{LeavesState}

-- a batch that has a fact is not one without
no_fact : (batch : List Fact) (pending : Option (List Fact)) → pending ≡ Some batch → 0 < length batch → HasNoFact pending → ⊥
no_fact batch pending same some none = by batch some (subst HasNoFact same none)
  where
    by : (facts : List Fact) → 0 < length facts → HasNoFact (Some facts) → ⊥
    by [] more is = omega (arith, more)
    by (x ∷ xs) more is = is

-- ---- moves

module _ {S : Type 0} (T : Ghosts S) (n : ℕ) (r now : Begun) (old new : S) where
  moves_run : {result : Result ℕ RefreshStop} → Steps T r now n old new result → moves_tried n result ≤ n → ForEach T (Pending r) old (RunsFor T (says.Step n) (Pending r) old new)
  moves_run {result} is few t world it = record {
    any_moment = begin_moments r.store (T.disk old) (T.disk new) it.0 (attends_belongs r (T.disk old) it.0 it.1 it.3.attends) world (act world (says.Step n)).0 it.2.kept
        ((is.by_facts t it.0.facts it.1).any_moment it.3.attends.adds);
    cost = λ cost costs. subst (λ (c : Cost). Spends T c old new) (sym costs)
        (step_spends T old new r it.0 it.1 it.3.attends it.3.format it.3.some world it.2 n (moves_tried n result) few ((is.by_facts t it.0.facts it.1).cost it.3.attends.adds.read));
  }

  side_stays : {result : Result ℕ RefreshStop} → Steps T r now n old new result → IsTrue T.tells → SideStays (live_of (Pending r)) (T.disk old).files (T.disk new).files
  side_stays is t = spared_stays r.store.forest.body (T.disk old).files (T.disk new).files (is.spares t).files

  -- it moved on
  module _ (made : ℕ) (is : Steps T r now n old new (Ok made)) (same : now ≡ record r { progress = now.progress })
      (goes : IsGoing now) (ready_now : IsTrue T.tells → IsReady now (T.disk new)) where
    attends_on : IsTrue T.tells → (warehouse : Warehouse) (batch : List Fact) → Attends r (T.disk old) warehouse batch → Attends now (T.disk new) warehouse batch
    attends_on t warehouse batch it = (let attends = it.attends in record {
      attends = record {
        lawful = attends.lawful;
        schema = ap (λ (b : Begun). b.store.forest.schema) same ∙ attends.schema;
        last = ap (λ (b : Begun). b.store.forest.body.last) same ∙ attends.last;
        next = ap (λ (b : Begun). b.next.last) same ∙ attends.next;
        counted = attends.counted;
        adds = (is.by_facts t warehouse.facts batch).live attends.adds;
        ready = ready_now t;
        moved = ((is.by_facts t warehouse.facts batch).stands attends.adds.read).0;
      };
      some = it.some;
      format = ap (λ (b : Begun). b.next.format) same ∙ it.format ∙ ap (λ (b : Begun). format_for b.store.forest.body.format batch) (sym same);
    })

    pub moves_on : (reply : Vec ℕ Global) → reply.items ≡ line (codes "stepped") → CarriesOutAlone T (says.Step n) (Pending r) (Pending now) old new (Ok reply)
    moves_on reply said = λ cache ready. replied T (says.Step n) (λ schema levels. refl) (Pending r) (Pending now) old new cache cache reply (moves_run is is.moves.limit.0) (record {
      answer = λ t world it. answered_by (T.disk new) (act world (says.Step n)) (world, line (codes "stepped")) (Pending now) reply.items
          (act_step world n ∙ (λ i. pending_over world (λ w b. replies_with world (codes "stepped")) (it.2.kept i) (it.2.pending i))) (it.0, it.1, it.2, attends_on t it.0 it.1 it.3) said;
      moved = λ t world it. reached_next world (says.Step n) (Pending r) (Pending now) refl (ap (λ (b : Begun). Some b.store.forest.body) same)
          (step_made T old new r it.0 it.1 it.3.attends it.3.format it.3.some world it.2 n made now.progress.taken is.moves.taken ((is.by_facts t it.0.facts it.1).stands it.3.attends.adds.read).1);
      uncalled = λ t world it none. absurd (no_fact it.1 world.pending it.2.pending it.3.some none);
      answered = λ t levels. said;
      runs = record { running = goes; fit = ready_now };
      busy = λ leaves. leaves.0;
      schema = λ declared has. ap (λ (b : Begun). Some b.store.forest.schema) same ∙ has;
      made = λ no. absurd (no tt);
      said = λ alone files levels. said;
    })
        (beside T (says.Step n) (λ schema levels. refl) (Pending r) (Pending now) old new cache ready (ap (λ (b : Begun). Some b.store.forest.body) same) (side_stays is) (λ no. absurd (no tt)))
        (refresh_quiet_on T old new (page_total r.store.forest.body r.store.forest.schema) (λ t. (is.spares t).told) made reply is.moves.calls)

  -- it stopped
  module _ (why : RefreshStop) (is : Steps T r now n old new (Err why)) where
    spares : (t : IsTrue T.tells) (stop : RefreshStop) → Spares (Some r.store.forest.body) (T.disk old).files (T.disk new).files (refresh_stop stop)
    spares t ends.Disk = tt
    spares t (ends.Damaged file offset) = side_spares r.store.forest.body (T.disk old).files (T.disk new).files (stops.Damaged file offset) (is.spares t).files

    pub moves_not : (final : State) → CarriesOutAlone T (says.Step n) (Pending r) final old new (Err (refresh_stop why))
    moves_not final = λ cache ready. stopped T (says.Step n) (λ schema levels. refl) (Pending r) final old new tt cache cache refl (refresh_stop why) (moves_run is (omega arith)) (record {
      undamaged = λ t world it. same_damage why ((is.by_facts t it.0.facts it.1).undamaged it.3.attends.adds.read);
      damage = λ t levels. refresh_tells r (T.disk old).files why (is.moves.damaged t);
      spared = λ t. spares t why;
      harmless = λ none. absurd none;
      step_side = λ t step. side_stays is t;
    })
        (refresh_quiet T old new (page_total r.store.forest.body r.store.forest.schema) (λ t. (is.spares t).told) why is.moves.calls)

-- ---- it is committed

pub finish_ends : {S : Type 0} (T : Ghosts S) (r : Begun) (site : S) → Ends T Committed says.Finish (Pending r) r site site
finish_ends T r site = record {
  none_asked = λ schema levels. refl;
  writes = tt;
  no_step = λ is. is;
  no_live = λ is. is;
  harms = λ is. is;
  reads = λ is. is;
  alone = refl;
  by_world = λ t world it. record {
    warehouse = it.0;
    batch = it.1;
    last = it.0.last;
    attends = it.3.attends;
    kept = it.2.kept;
    later = later_for r (T.disk site) it.0 it.1 it.3.attends it.3.format;
    acts = finish_answer world it.0 it.1 it.2;
    any_moment = λ new run. run;
    moves = ap unmoved (finish_reaches world it.0 it.1 it.2 it.3.some r.store.forest.body.format ∙ sym it.3.format);
    calls = no_fact it.1 world.pending it.2.pending it.3.some;
    costs = λ cost costs new ends pages. subst (λ (c : Cost). Spends T c site new) (sym (costs ∙ finish_is world it.0 it.1 it.2 it.3.some (reached_by (Pending r))
        ∙ ap (λ (f : ℕ). commit_cost (forest_moves r.store.forest.body.format f it.0.schema it.0.facts it.1) r.progress.taken) (sym it.3.format))) ends;
  };
  quiet = λ new result quiet. quiet;
  damage = λ t levels stop told. told;
  gives = λ t levels reply ends. ends;
  spares = λ t new stop spares. side_spares r.store.forest.body (T.disk site).files (T.disk new).files stop spares;
  live = refl;
  schema = refl;
}

-- ---- it is dropped

without_belongs : (r : Begun) (store : Store) (disk : Disk) (warehouse : Warehouse) (batch : List Fact) → IsWithout r store → Attends r disk warehouse batch → Belongs store disk warehouse
without_belongs r store disk warehouse batch without it = (let is = it.attends in record {
  lawful = is.lawful;
  schema = ap (λ (f : Forest). f.schema) without.forest ∙ is.schema;
  last = ap (λ (f : Forest). f.body.last) without.forest ∙ is.last;
  stored = holds_to (IsRefreshOf r warehouse.facts batch) (IsStoreOf store warehouse.facts) disk (without.stored warehouse.facts batch) is.adds;
  opened = subst (λ (f : Forest). IsOpened f.body disk) (sym without.forest) is.ready.opened;
})

-- ---- no call is made

module _ {S : Type 0} (T : Ghosts S) (command : Command) (none_asked : (schema : Schema) (levels : List Level) → asked_by schema levels command ≡ None) (busy : LeavesState command → ⊥) (answer : World → Warehouse → List Fact → Answer)
    (acts : (world : World) → act world command ≡ pending_over world (answer world) world.kept world.pending) (site : S) (only : IsTrue T.tells → OnlyNow (T.disk site)) where
  -- by what is kept and pending
  over : (state next : State) (reply : Vec ℕ Global) → ((world : World) → Stands state (T.disk site) world → (kept : Kept) × (pending : Option (List Fact)) × Knows kept pending world
      × Stands next (T.disk site) (pending_over world (answer world) kept pending).0 × (reply.items ≡ (pending_over world (answer world) kept pending).1))
      → ((world : World) → Stands state (T.disk site) world → IsStill (reached_by state) next (reached_behind world (reached_by state) command)) → ((files : Files) (levels : List Level) → Gives levels state files command reply.items)
      → (RunsOn T site state → RunsOn T site next) → moves_made next ≡ made_alone command (moves_made state) → live_of next ≡ live_of state → schema_of next ≡ schema_of state → CarriesOutAlone T command state next site site (Ok reply)
  over state next reply by = rests T command none_asked busy state next site only reply (λ t world it. (let is = by world it in
      answered_by (T.disk site) (act world command) (pending_over world (answer world) is.0 is.1) next reply.items
      (acts world ∙ (λ i. pending_over world (answer world) (is.2.kept i) (is.2.pending i))) is.3 is.4))

-- the pending batch is dropped, if one is
module _ {S : Type 0} (T : Ghosts S) (site : S) (only : IsTrue T.tells → OnlyNow (T.disk site)) (reply : Vec ℕ Global) where
  drops : (state final next : State) → next ≡ final → reply.items ≡ pending_line state (codes "abandoned") → ((world : World) → Stands state (T.disk site) world
      → (kept : Kept) × (pending : Option (List Fact)) × Knows kept pending world × Stands final (T.disk site) (pending_over world (λ w b. (record world { pending = None }, line (codes "abandoned"))) kept pending).0
      × (reply.items ≡ (pending_over world (λ w b. (record world { pending = None }, line (codes "abandoned"))) kept pending).1))
      → (RunsOn T site state → RunsOn T site final) → moves_made final ≡ 0 → live_of final ≡ live_of state → schema_of final ≡ schema_of state → CarriesOutAlone T says.Abandon state next site site (Ok reply)
  drops state final next same said by runs none live schema = subst (λ (s : State). CarriesOutAlone T says.Abandon state s site site (Ok reply)) (sym same)
      (over T says.Abandon (λ schema levels. refl) (λ leaves. leaves.1) (λ world w b. (record world { pending = None }, line (codes "abandoned"))) act_abandon site only state final reply by (λ world it. record { format = refl; made = none }) (λ files levels. said) runs none live schema)

  pub abandons : (state : State) → reply.items ≡ pending_line state (codes "abandoned") → (next : State) → IsDropped state next → CarriesOutAlone T says.Abandon state next site site (Ok reply)
  abandons Empty said next is = drops Empty Empty next is said (λ world it. (None, None, it.0, it, said)) (λ runs. runs) refl refl refl
  abandons (Idle store) said next is = drops (Idle store) (Idle store) next is said (λ world it. (Some it.0, None, it.1, it, said)) (λ runs. runs) refl refl refl
  abandons (Hollow store) said next is = drops (Hollow store) (Idle store) next is said
      (λ world it. (Some it.0, Some [], it.1, (it.0, record { kept = it.1.kept; pending = refl }, it.2), said)) (λ runs. record { running = runs.running; fit = runs.fit }) refl refl refl
  abandons (Pending r) said next is = drops (Pending r) (Idle is.0) next is.1 said
      (λ world it. (Some it.0, Some it.1, it.2, (it.0, record { kept = it.2.kept; pending = refl }, without_belongs r is.0 (T.disk site) it.0 it.1 is.2 it.3), said))
      (λ runs. record { running = is.2.whole; fit = λ t. subst (λ (f : Forest). IsOpened f.body (T.disk site)) (sym is.2.forest) (runs.fit t).opened })
      refl (ap (λ (f : Forest). Some f.body) is.2.forest) (ap (λ (f : Forest). Some f.schema) is.2.forest)

-- a step, where no batch with a fact is pending
module _ {S : Type 0} (T : Ghosts S) (n : ℕ) (site : S) (only : IsTrue T.tells → OnlyNow (T.disk site)) (reply : Vec ℕ Global) where
  no_moves : (format : ℕ) (world : World) (kept : Kept) (pending : Option (List Fact)) → Knows kept pending world → length (moves_over format kept pending) ≡ 0
      → 0 ≡ (reached_behind world (unmoved format) (says.Step n)).made
  no_moves format world kept pending knows none =
      let all : length (moves_over format world.kept world.pending) ≡ 0 = (λ i. length (moves_over format (knows.kept i) (knows.pending i))) ∙ none in omega (arith, all)

  steps : (state : State) → moves_made state ≡ 0 → reply.items ≡ pending_line state (codes "stepped") → ((world : World) → Stands state (T.disk site) world → (kept : Kept) × (pending : Option (List Fact))
      × Knows kept pending world × (pending_over world (λ w b. replies_with world (codes "stepped")) kept pending ≡ (world, pending_line state (codes "stepped"))) × (length (moves_over (format_of state) kept pending) ≡ 0))
      → CarriesOutAlone T (says.Step n) state state site site (Ok reply)
  steps state none said by = over T (says.Step n) (λ schema levels. refl) (λ leaves. leaves.0) (λ world w b. replies_with world (codes "stepped")) (λ world. act_step world n) site only state state reply
      (λ world it. (let is = by world it in (is.0, is.1, is.2, subst (λ (a : Answer). Stands state (T.disk site) a.0) (sym is.3) it, said ∙ ap (λ (a : Answer). a.1) (sym is.3))))
      (λ world it. (let is = by world it in record {
        format = refl;
        made = subst (λ (m : ℕ). m ≡ (reached_behind world (record { format = format_of state; made = m }) (says.Step n)).made) (sym none) (no_moves (format_of state) world is.0 is.1 is.2 is.4);
      })) (λ files levels. said) (λ runs. runs) refl refl refl

  pub steps_none : (state : State) → ((r : Begun) → state ≡ Pending r → ⊥) → reply.items ≡ pending_line state (codes "stepped") → CarriesOutAlone T (says.Step n) state state site site (Ok reply)
  steps_none Empty not said = steps Empty refl said (λ world it. (None, None, it.0, refl, refl))
  steps_none (Idle store) not said = steps (Idle store) refl said (λ world it. (Some it.0, None, it.1, refl, refl))
  steps_none (Hollow store) not said = steps (Hollow store) refl said (λ world it. (Some it.0, Some [], it.1, refl, refl))
  steps_none (Pending r) not said = absurd (not r refl)

-- a finish that accepts no fact leaves the format
finish_still : (world : World) (kept : Kept) (pending : Option (List Fact)) → Knows kept pending world → (pending_over world (λ w b. committed world w b w.last) kept pending).0.kept ≡ world.kept
    → (format : ℕ) (next : State) → moves_made next ≡ 0 → IsStill (unmoved format) next (unmoved (format_behind world format says.Finish))
finish_still world kept pending knows stays format next none = record {
  format = format_stays world format says.Finish
      (ap (λ (a : Answer). a.0.kept) (act_finish world ∙ (λ i. pending_over world (λ w b. committed world w b w.last) (knows.kept i) (knows.pending i))) ∙ stays);
  made = none;
}

-- a finish, likewise: it refuses, or acknowledges an empty batch
module _ {S : Type 0} (T : Ghosts S) (site : S) (only : IsTrue T.tells → OnlyNow (T.disk site)) (reply : Vec ℕ Global) where
  pub finishes_none : (state : State) → ((r : Begun) → state ≡ Pending r → ⊥) → ((store : Store) → state ≡ Hollow store → ⊥) → reply.items ≡ line (codes "refused nothing pending")
      → CarriesOutAlone T says.Finish state state site site (Ok reply)
  finishes_none Empty not full said = over T says.Finish (λ schema levels. refl) (λ leaves. leaves.0) (λ world w b. committed world w b w.last) act_finish site only Empty Empty reply
      (λ world it. (None, None, it.0, it, said)) (λ world it. finish_still world None None it.0 refl 1 Empty refl) (λ files levels. said) (λ runs. runs) refl refl refl
  finishes_none (Idle store) not full said = over T says.Finish (λ schema levels. refl) (λ leaves. leaves.0) (λ world w b. committed world w b w.last) act_finish site only (Idle store) (Idle store) reply
      (λ world it. (Some it.0, None, it.1, it, said)) (λ world it. finish_still world (Some it.0) None it.1 refl store.forest.body.format (Idle store) refl) (λ files levels. said) (λ runs. runs) refl refl refl
  finishes_none (Hollow store) not full said = absurd (full store refl)
  finishes_none (Pending r) not full said = absurd (not r refl)

  pub finishes_hollow : (store : Store) → reply.items ≡ committed_text store.forest.body.facts → CarriesOutAlone T says.Finish (Hollow store) (Idle store) site site (Ok reply)
  finishes_hollow store said = over T says.Finish (λ schema levels. refl) (λ leaves. leaves.0) (λ world w b. committed world w b w.last) act_finish site only (Hollow store) (Idle store) reply
      (λ world it. (let is = empty_answer world it.0 store (T.disk site) it.2 reply.items said in (Some it.0, Some [], it.1, is.stands, is.said)))
      (λ world it. finish_still world (Some it.0) (Some []) it.1 (ap Some (same_facts it.0) ∙ sym it.1.kept) store.forest.body.format (Idle store) refl) (λ files levels. said) (λ runs. record { running = runs.running; fit = runs.fit }) refl refl refl
