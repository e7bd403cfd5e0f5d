-- A batch that has begun is committed, at each end of it.
use Rattle.cube_state.specs.declared.stop.Stop.TheVariants as stops
use Rattle.forest_refresh.specs.declared.stop.RefreshStop.TheVariants as ends
use Rattle.forest_refresh.specs.Refreshed as refreshes
use Rattle.cube_batches.proofs.Names.{◌++◌, ◌+◌, ◌∙◌, ◌≡◌, ◌≢◌, Answer, AttendsAs, Begun, Belongs, Between, Cache, Calls, Command, Commits, Disk, Ends, Err, Fact, Files, ForEach}
use Rattle.cube_batches.proofs.Names.{Ghosts, Gives, Global, HasCauseWhere, HoldsNow, Idle, IsLawful, IsNextStore, IsNoDamage, IsOpened, IsQuiet, IsRefreshOf, IsStable, IsStoreOf, IsTrue, Keeps}
use Rattle.cube_batches.proofs.Names.{KeepsEither, LeavesOnly, List, Ok, RefreshStop, Reply, Result, RunsFor, SaysOnly, Schema, Some, SparesOthers, State, StopCause, Store}
use Rattle.cube_batches.proofs.Names.{TellsFirstDamage, TellsRefreshDamage, Vec, Warehouse, World, [], act, ap, arith, both, committed, emptied, fact_count, forest_moves, inl, inr}
use Rattle.cube_batches.proofs.Names.{length-append, onward, page_total, quiet_out, refl, refresh_stop, replied, stable_holds, stopped, subst, sym, unharmed, wider, ℕ}
use Rattle.cube_batches.proofs.Names.{Level}
use Rattle.cube_batches.proofs.{Calls.answered_by, Calls.says_either, Takings.all_fine}
use Rattle.cube_state.proofs.BatchCosts.{commit_spends, pages_read}
use Rattle.spec_moves.specs.Forest.{forest_moves}
use Rattle.forest_refresh.specs.Ends.{Finishes}
use Rattle.std.proofs.Common.{Option, ◌≤◌}
use Rattle.cube_state.proofs.Standing.{keeps_from}
use Rattle.spec_store.proofs.Standing.{in_some}
use Rattle.spec_store.specs.Held.{KeepsAs}
use Rattle.spec_crash.specs.Keeps.{IsFrom}
use Rattle.spec_store.specs.Sides.{page_count}
use Rattle.forest_root.specs.declared.body.Body.{Body}
use Rattle.cube_state.specs.Cached.{generation}
use Rattle.cube_state.specs.Costs.{Spends}
use Rattle.cube_state.specs.BatchCosts.{commit_cost}
use Rattle.cube_batches.specs.Committing.{ended_with, text_of}
use Rattle.cube_batches.specs.declared.committing.Told.{Told}
use Rattle.cube_state.specs.Moves.{format_in, format_of, unmoved}
use Rattle.cube_state.proofs.Writing.{writes_on}

-- ---- stops of a refresh

-- one that tells no damage is told as a stop that tells none
pub same_damage : (stop : RefreshStop) → refreshes.IsNoDamage stop → IsNoDamage (refresh_stop stop)
same_damage ends.Disk none = tt
same_damage (ends.Damaged file offset) none = none

pub refresh_tells : (r : Begun) (files : Files) (why : RefreshStop) → TellsFirstDamage r.store.forest files r.deltas why → TellsRefreshDamage r files (refresh_stop why)
refresh_tells r files ends.Disk is = tt
refresh_tells r files (ends.Damaged file offset) is = is

module _ {S A : Type 0} (T : Ghosts S) (old new : S) (most : ℕ) (told : IsTrue T.tells → (T.disk new).told ≡ (T.disk old).told) where
  refresh_cause : (why : RefreshStop) → Calls {A = A} T (HasCauseWhere ends.Disk) most old new (Err why)
      → StopCause (T.disk_faults old) (T.disk_faults new) (T.told_faults old) (T.told_faults new) (refresh_stop why)
  refresh_cause ends.Disk calls = ((calls.cause.failed refl, calls.cause.once), calls.told_faults)
  refresh_cause (ends.Damaged file offset) calls = (calls.cause.other (λ e. cc), calls.told_faults)

  pub refresh_quiet : {B : Type 0} (why : RefreshStop) → Calls {A = A} T (HasCauseWhere ends.Disk) most old new (Err why) → IsQuiet {A = B} T old new (Err (refresh_stop why))
  refresh_quiet why calls = record { told = told; cause = refresh_cause why calls; disk_faults = tt; told_faults = calls.told_faults }

  pub refresh_quiet_on : {B : Type 0} (x : A) (y : B) → Calls T (HasCauseWhere ends.Disk) most old new (Ok x) → IsQuiet T old new (Ok y)
  refresh_quiet_on x y calls = record { told = told; cause = tt; disk_faults = calls.cause.ok; told_faults = calls.told_faults }

-- ---- all facts are kept then

module _ (last : ℕ) (r : Begun) (later : r.store.forest.body.format ≤ r.next.format) (old new : Disk) (warehouse : Warehouse) (batch : List Fact) (is : AttendsAs last r old warehouse batch) where
  abbrev all_kept : Warehouse
  all_kept = record { schema = warehouse.schema; facts = warehouse.facts ++ batch; last = last }

  all_lawful : IsLawful all_kept
  all_lawful = record {
    schema = is.lawful.schema;
    accepted = all_fine r old warehouse batch is;
    last = omega (arith, is.counted, length-append warehouse.facts batch);
  }

  -- at such a moment
  abbrev AtMoment : Files → Type 0
  AtMoment files = refreshes.KeepsEither r.store.forest.body.format r.store.forest.schema warehouse.facts r.store.forest.body.last r.next.format (warehouse.facts ++ batch) r.next.last files

  either : (world : World) → world.kept ≡ Some warehouse → (files : Files) → AtMoment files → KeepsEither world (committed world warehouse batch last).0 files
  either world kept files (inl without) = inl (subst (Keeps files) (sym kept) (record {
    lawful = is.lawful;
    kept = in_some (subst (λ (k : Schema × ℕ). KeepsAs r.store.forest.body.format k.0 warehouse.facts k.1 files) (λ i. (is.schema i, is.last i)) without);
  }))
  either world kept files (inr both) = inr (record {
    lawful = all_lawful;
    kept = in_some (subst (λ (k : Schema × ℕ). KeepsAs r.next.format k.0 (warehouse.facts ++ batch) k.1 files) (λ i. (is.schema i, is.next i)) both.1);
  })

  -- no format is left again
  either_from : (files : Files) → AtMoment files → IsFrom r.store.forest.body.format files
  either_from files (inl without) = keeps_from r.store.forest.schema warehouse.facts r.store.forest.body.last files (omega arith) without
  either_from files (inr both) = keeps_from r.store.forest.schema (warehouse.facts ++ batch) r.next.last files later both.1

  -- the files keep the facts without the batch, or all of them
  commit_moments : (world : World) → world.kept ≡ Some warehouse
      → LeavesOnly old new (λ told files. (told ≡ old.told) × AtMoment files) → Between r.store.forest.body.format old new world (committed world warehouse batch last).0
  commit_moments world kept run = wider old new _ _ (λ told files both. (both.0, either world kept files both.1, either_from files both.1)) run

  commit_belongs : (store : Store) → IsNextStore r store → IsStoreOf store (warehouse.facts ++ batch) new.files → IsStable new → IsOpened store.forest.body new → Belongs store new all_kept
  commit_belongs store after stored stable opened = record {
    lawful = all_lawful;
    schema = after.schema ∙ is.schema;
    last = after.last ∙ is.next;
    stored = stable_holds (IsStoreOf store (warehouse.facts ++ batch)) new stable stored;
    opened = opened;
  }

-- all kept pages are forgotten
pub forgotten : (before after : Cache) → after.capacity ≡ before.capacity → after.kept ≡ [] → after ≡ emptied before
forgotten before after room none = λ i. record { capacity = room i; kept = none i }

-- ---- the call that ends it

module _ {S : Type 0} (T : Ghosts S) (told : Told) (r : Begun) (mid new : S) (before : Cache) where
  abbrev pages : ℕ
  pages = page_total r.store.forest.body r.store.forest.schema

  runs_for : {result : Result Store RefreshStop} → Finishes T r mid new result → (command : Command) (state : State) (old : S) → Ends T told command state r old mid
      → ForEach T state old (RunsFor T command state old new)
  runs_for is command state old to = λ t world stands.
      let for = to.by_world t world stands in
      let adds = for.attends.adds in
      record {
        any_moment = for.any_moment new (subst (λ (a : ℕ × Answer). Between a.0 (T.disk mid) (T.disk new) world a.1.0) (λ i. (ap format_in (sym to.live) i, sym for.acts i))
            (commit_moments for.last r for.later (T.disk mid) (T.disk new) for.warehouse for.batch for.attends world for.kept ((is.by_facts t for.warehouse.facts for.batch).any_moment adds)));
        cost = λ cost costs.
            let same : r.store.forest.body.format ≡ format_of state = ap format_in (sym to.live) in
            for.costs cost costs new
            (subst (λ (f : ℕ). Spends T (commit_cost (forest_moves f r.next.format for.warehouse.schema for.warehouse.facts for.batch) r.progress.taken) mid new) same
            (commit_spends T mid new r for.warehouse for.batch for.attends ((is.by_facts t for.warehouse.facts for.batch).cost adds.read)))
            (subst (λ (f : ℕ). T.reads new ≤ T.reads mid + page_count f for.warehouse.schema for.warehouse.facts) same (pages_read T mid new r for.warehouse for.batch for.attends is.calls.reads));
      }

  -- it stopped
  module _ (why : RefreshStop) (is : Finishes {A = Store} T r mid new (Err why)) where
    spares : (t : IsTrue T.tells) (stop : RefreshStop) → (stop ≢ ends.Disk → refreshes.SparesLive r.store.forest.body (T.disk mid) (T.disk new))
        → SparesOthers r.store.forest.body (T.disk mid).files (T.disk new).files (refresh_stop stop)
    spares t ends.Disk is_so = tt
    spares t (ends.Damaged file offset) is_so = (is_so (λ e. cc)).files

    pub commits_not : (next : State) → Commits T told r next mid new before before (Err (refresh_stop why))
    commits_not next = λ command state old to. stopped T command to.none_asked state next old new to.writes before before refl (refresh_stop why) (runs_for is command state old to)
        (record {
          undamaged = λ t world stands. (let for = to.by_world t world stands in same_damage why ((is.by_facts t for.warehouse.facts for.batch).undamaged for.attends.adds.read));
          damage = λ t levels. to.damage t levels (refresh_stop why) (refresh_tells r (T.disk mid).files why (is.any_files t).damaged);
          spared = λ t. to.spares t new (refresh_stop why) (spares t why (is.any_files t).spared);
          harmless = λ none. absurd (to.harms none);
          step_side = λ t step. absurd (to.no_step step);
        })
        (to.quiet new (Err (refresh_stop why)) (refresh_quiet T mid new pages (λ t. (is.any_files t).told) why is.calls))

  -- it is committed, and acknowledged, or memory runs out
  module _ (store : Store) (is : Finishes T r mid new (Ok store))
      (finished : IsTrue T.tells → (accepted batch : List Fact) → HoldsNow (IsRefreshOf r accepted batch) (T.disk mid) → IsStoreOf store (accepted ++ batch) (T.disk new).files)
      (opened : IsTrue T.tells → IsOpened store.forest.body (T.disk new)) (next : IsNextStore r store) (after : Cache) (forgets : after ≡ emptied before) where
    acknowledges : (reply : Vec ℕ Global) → reply.items ≡ text_of told store.forest.body.facts → Commits T told r (Idle store) mid new before after (Ok reply)
    acknowledges reply said = λ command state old to.
        let gives : IsTrue T.tells → (levels : List Level) → Gives levels state (T.disk old).files command reply.items = λ t levels. to.gives t levels reply.items (record { whole = (is.any_files t).joined; said = said ∙ ap (text_of told) next.facts }) in
        replied T command to.none_asked state (Idle store) old new before after reply (runs_for is command state old to) (record {
          answer = λ t world stands. (let for = to.by_world t world stands in let kept = finished t for.warehouse.facts for.batch for.attends.adds in
              answered_by (T.disk new) (act world command) (ended_with told world for.warehouse for.batch for.last) (Idle store) reply.items for.acts (
                record { schema = for.warehouse.schema; facts = for.warehouse.facts ++ for.batch; last = for.last },
                record { kept = refl; pending = refl },
                commit_belongs for.last r for.later (T.disk mid) (T.disk new) for.warehouse for.batch for.attends store next kept (is.any_files t).stable (opened t),
              ) (said ∙ ap (text_of told) kept.live.at.body_is.facts));
          moved = λ t world stands. (let for = to.by_world t world stands in ap unmoved next.format ∙ sym for.moves);
          uncalled = λ t world stands none. absurd ((to.by_world t world stands).calls none);
          answered = gives;
          runs = record { running = next.whole; fit = opened };
          busy = writes_on command to.writes;
          schema = λ declared has. ap Some next.schema ∙ (sym to.schema ∙ has);
          made = λ no. sym to.alone;
          said = λ alone files levels. absurd (to.reads alone);
        })
        (onward T command to.none_asked state (Idle store) old new to.writes to.no_live to.no_step before after (next.generation ∙ ap (λ (b : Option Body). generation b + 1) (sym to.live)) forgets)
        (to.quiet new (Ok reply) (refresh_quiet_on T mid new pages (λ t. (is.any_files t).told) store reply is.calls))

    wants_room : Commits T told r (Idle store) mid new before after (Err stops.Memory)
    wants_room = λ command state old to. stopped T command to.none_asked state (Idle store) old new to.writes before after (ap (λ (c : Cache). c.capacity) forgets) stops.Memory (runs_for is command state old to)
        (unharmed T command to.none_asked state (Idle store) old new stops.Memory tt (λ t step. absurd (to.no_step step)))
        (to.quiet new (Err stops.Memory) (quiet_out (refresh_quiet_on T mid new pages (λ t. (is.any_files t).told) {B = Unit {0}} store tt is.calls)))

    -- whatever the session has is said by the store
    pub commits : (final : State) → final ≡ Idle store → (result : Reply) → SaysOnly (text_of told (fact_count final)) result → Commits T told r final mid new before after result
    commits final idle result said = subst (λ (s : State). SaysOnly (text_of told (fact_count s)) result → Commits T told r s mid new before after result) (sym idle)
        (says_either (Commits T told r (Idle store) mid new before after) (text_of told store.forest.body.facts) acknowledges wants_room result) said
