-- The pages are made anew in the greatest format.
use Rattle.script_lang.specs.declared.command.Command.TheVariants as says
use Rattle.cube_state.specs.declared.stop.Stop.TheVariants as stops
use Rattle.forest_refresh.specs.declared.stop.BeginStop.TheVariants as begins
use Rattle.cube_batches.proofs.Names.{◌++◌, ◌<◌, ◌∙◌, ◌≡◌, ◌≢◌, ◌⊎◌, AttendsAs, BeginFault, Begun, Belongs, Body, CarriesOut, CarriesOutAlone, Cost, Disk, Empty, Ends, Err, Fact}
use Rattle.cube_batches.proofs.Names.{Forest, Ghosts, Hollow, Idle, IsReady, IsRefreshOf, IsStable, IsTrue, Kept, Knows, List, None, OnlyNow, Option, Pending, Reply}
use Rattle.cube_batches.proofs.Names.{SaysOnly, Some, Spends, Stands, State, Stop, Store, Warehouse, World, [], act, ap, arith, codes, cond, free, goes_nowhere, inl, inr}
use Rattle.cube_batches.proofs.Names.{line, load_cost_of, nat_tests, refl, runs_out, says, stable_holds, stopped, subst, sym, true, unharmed, ℕ}
use Rattle.cube_batches.proofs.Names.{says_just}
use Rattle.spec_moves.specs.Forest.{forest_moves}
use Rattle.forest_refresh.specs.Next.{body_as}
use Rattle.page_fmt.specs.Formats.{wide_format}
use Rattle.spec_machine.proofs.Acts.{act_upgrade}
use Rattle.spec_machine.specs.Machine.{upgrade_over}
use Rattle.cube_state.proofs.BatchCosts.{committed_spends}
use Rattle.cube_state.proofs.Costs.{spends_more}
use Rattle.cube_state.specs.BatchCosts.{remakes, remakes_over, upgrade_moves}
use Rattle.cube_state.specs.Batches.{UpgradeGives}
use Rattle.cube_state.specs.Carried.{IsReadyFor}
use Rattle.cube_state.specs.Moves.{format_of, format_upgraded, reached_by, unmoved}
use Rattle.page_cache.specs.Giving.{Cache}
use Rattle.cube_batches.specs.Taking.{HasStarted, begin_stop}
use Rattle.std.proofs.Common.{true≢false}
use Rattle.cube_batches.specs.declared.committing.Told.TheVariants.{Upgraded}
use Rattle.cube_batches.proofs.{Calls.batch_told, Calls.batch_whole, Calls.between_then, Calls.or_out, Calls.quiet_then, Loads.same_facts, Loads.started_spares, Takings.begin_between}
use Rattle.forest_refresh.specs.Begins.{Begins}
use Rattle.cube_batches.proofs.Takings.{none_moved}

-- ---- what the plain machine makes of it

upgrade_answer : (world : World) (kept : Kept) (pending : Option (List Fact)) → Knows kept pending world → act world says.Upgrade ≡ (world, upgrade_over kept pending)
upgrade_answer world kept pending knows = act_upgrade world ∙ (λ i. (world, upgrade_over (knows.kept i) (knows.pending i)))

-- ---- no call is made

module _ {S : Type 0} (T : Ghosts S) (site : S) (only : IsTrue T.tells → OnlyNow (T.disk site)) where
  -- it answers with this line
  answers_with : (state : State) (text : List ℕ) → ((world : World) → Stands state (T.disk site) world → (kept : Kept) × (pending : Option (List Fact)) × Knows kept pending world
      × (upgrade_over kept pending ≡ line text) × (format_upgraded kept pending (format_of state) ≡ format_of state)) → ((files : _) → UpgradeGives state files (line text))
      → (result : Reply) → SaysOnly (line text) result → CarriesOutAlone T says.Upgrade state state site site result
  answers_with state text by gives = or_out T says.Upgrade state state site only (line text) (λ reply said cache ready. says T says.Upgrade state site cache only (line text) reply ready (λ levels. record {
    acts = λ t world known stands. (let is = by world stands in says_just world _ _ (upgrade_answer world is.0 is.1 is.2 ∙ ap (λ (l : List ℕ). (world, l)) is.3));
    moves = λ t world stands. (let is = by world stands in λ i. record (reached_by state) {
      format = ((λ j. format_upgraded (is.2.kept j) (is.2.pending j) (format_of state)) ∙ is.4) i;
    });
    goes = λ t world known stands. goes_nowhere says.Upgrade (λ schema levels. refl) (format_of state) world;
    gives = gives;
    alone = λ no. refl;
  }) said)

  pub refuses_none : (result : Reply) → SaysOnly (line (codes "refused no schema")) result → CarriesOutAlone T says.Upgrade Empty Empty site site result
  refuses_none = answers_with Empty (codes "refused no schema") (λ world it. (None, None, it.0, refl, refl)) (λ files. refl)

  pub refuses_busy : (state : State) → ((store : Store) × (state ≡ Hollow store)) ⊎ ((r : Begun) × (state ≡ Pending r)) → (result : Reply) → SaysOnly (line (codes "refused pending")) result
      → CarriesOutAlone T says.Upgrade state state site site result
  refuses_busy state (inl hollow) result said = subst (λ (s : State). CarriesOutAlone T says.Upgrade s s site site result) (sym hollow.1)
      (answers_with (Hollow hollow.0) (codes "refused pending") (λ world it. (Some it.0, Some [], it.1, refl, refl)) (λ files. refl) result said)
  refuses_busy state (inr pending) result said = subst (λ (s : State). CarriesOutAlone T says.Upgrade s s site site result) (sym pending.1)
      (answers_with (Pending pending.0) (codes "refused pending") (λ world it. (Some it.0, Some it.1, it.2, refl, refl)) (λ files. refl) result said)

  -- the pages have the greatest format
  pub has_upgraded : (store : Store) → (store.forest.body.format < wide_format → ⊥) → (result : Reply) → SaysOnly (line (codes "upgraded")) result
      → CarriesOutAlone T says.Upgrade (Idle store) (Idle store) site site result
  has_upgraded store wide = answers_with (Idle store) (codes "upgraded") (λ world it. (
    Some it.0,
    None,
    it.1,
    refl,
    (let known = it.2.stored.read.live.at.body_is in omega (arith, wide)),
  )) (λ files. record { whole = λ narrow. absurd (wide narrow); said = refl })

-- ---- they are made anew

memory_no_disk : begins.Memory ≡ begins.Disk → ⊥
memory_no_disk same = absurd (cc)

module _ (store : Store) (old new : Disk) (warehouse : Warehouse) (is : Belongs store old warehouse) where
  -- the refresh of no batch has begun
  pub upgrade_attends : (r : Begun) → r.store.forest ≡ store.forest → r.next ≡ body_as store.forest.body wide_format → IsRefreshOf r warehouse.facts [] new.files → IsStable new → IsReady r new → r.progress.taken ≡ 0
      → AttendsAs store.forest.body.last r new warehouse []
  upgrade_attends r same next adds stable ready none = record {
    lawful = is.lawful;
    schema = ap (λ (f : Forest). f.schema) same ∙ is.schema;
    last = ap (λ (f : Forest). f.body.last) same ∙ is.last;
    next = ap (λ (b : Body). b.last) next;
    counted = omega (arith, is.last, is.lawful.last);
    adds = stable_holds (IsRefreshOf r warehouse.facts []) new stable adds;
    ready = ready;
    moved = none_moved r new.files warehouse.facts [] none;
  }

module _ {S : Type 0} (T : Ghosts S) (store : Store) (narrow : store.forest.body.format < wide_format) (old mid : S) where
  remakes_is : (world : World) → Stands (Idle store) (T.disk old) world → remakes world store.forest.body.format ≡ true
  remakes_is world it = (λ i. remakes_over (it.1.kept i) (it.1.pending i) store.forest.body.format) ∙ grind (arith, nat_tests, narrow)

  -- its cost
  cost_is : (world : World) (it : Stands (Idle store) (T.disk old) world) (cost : Cost) → cost ≡ cond (remakes world store.forest.body.format)
      (load_cost_of store.forest.body.format world.kept (upgrade_moves store.forest.body.format world.kept)) free
      → cost ≡ load_cost_of store.forest.body.format (Some it.0) (upgrade_moves store.forest.body.format (Some it.0))
  cost_is world it cost costs = costs ∙ (λ i. cond (remakes_is world it i) (load_cost_of store.forest.body.format (it.1.kept i) (upgrade_moves store.forest.body.format (it.1.kept i))) free)

  -- what is known stays
  same_world : (world : World) (it : Stands (Idle store) (T.disk old) world) → world ≡ record world { kept = Some (record it.0 { facts = it.0.facts ++ []; last = store.forest.body.last }); pending = None }
  same_world world it = λ i. record world {
    kept = (it.1.kept ∙ sym (ap Some (same_facts it.0)) ∙ ap (λ (n : ℕ). Some (record it.0 { facts = it.0.facts ++ []; last = n })) (sym it.2.last)) i;
    pending = it.1.pending i;
  }

  module _ (r : Begun) (start : HasStarted T store [] store.forest.body.last old mid r) (wide : r.next.format ≡ wide_format) where
    pub upgrade_ends : Ends T Upgraded says.Upgrade (Idle store) r old mid
    upgrade_ends = record {
      none_asked = λ schema levels. refl;
      writes = tt;
      no_step = λ is. is;
      no_live = λ is. is;
      harms = λ is. is;
      reads = λ is. is;
      alone = refl;
      by_world = λ t world it. record {
        warehouse = it.0;
        batch = [];
        last = store.forest.body.last;
        attends = start.attends t it.0 it.2;
        kept = it.1.kept;
        later = omega (arith, narrow, wide, ap (λ (f : Forest). f.body.format) start.forest);
        acts = upgrade_answer world (Some it.0) None it.1 ∙ (λ i. (same_world world it i, line (codes "upgraded")));
        any_moment = λ new run. between_then store.forest.body.format (T.disk old) (T.disk mid) (T.disk new) world (act world says.Upgrade).0 (start.quiet.told t)
            (start.any_moment t it.0 it.2 world (act world says.Upgrade).0 it.1.kept) run;
        moves = (λ i. unmoved (format_upgraded (it.1.kept i) (it.1.pending i) store.forest.body.format)) ∙ ap unmoved (sym wide);
        calls = λ none. true≢false (sym (remakes_is world it) ∙ none);
        costs = λ cost costs new ends pages. subst (λ (c : Cost). Spends T c old new) (sym (cost_is world it cost costs
            ∙ ap (λ (f : ℕ). load_cost_of store.forest.body.format (Some it.0) (forest_moves store.forest.body.format f it.0.schema it.0.facts [])) (sym wide)))
            (committed_spends T old mid new store.forest.body.format it.0 (forest_moves store.forest.body.format r.next.format it.0.schema it.0.facts []) start.spent r.progress.taken start.none_made ends pages);
      };
      quiet = λ new result then. quiet_then T old mid new start.quiet result then;
      damage = λ t levels stop told. batch_told r store [] (T.disk old).files (T.disk mid).files (start.closes t).range.others start.forest start.points stop told;
      gives = λ t levels reply ends. record {
        whole = λ old_format. batch_whole r store [] (T.disk old).files (T.disk mid).files (start.closes t).range.others start.forest start.points ends.whole;
        said = ends.said;
      };
      spares = started_spares T store old mid start;
      live = ap (λ (f : Forest). Some f.body) (sym start.forest);
      schema = ap (λ (f : Forest). Some f.schema) (sym start.forest);
    }

  -- they have not begun to be
  module _ (fault : BeginFault) (is : Begins T store [] old mid (Err fault)) (why : (fault.why ≡ begins.Memory) ⊎ (fault.why ≡ begins.Disk)) (untouched : fault.why ≢ begins.Disk → mid ≡ old)
      (only : IsTrue T.tells → OnlyNow (T.disk old)) (next : State) (cache : Cache) (ready : IsReadyFor T old cache (Idle store)) where
    -- a file failed
    upgrade_failed : fault.why ≡ begins.Disk → CarriesOut T says.Upgrade (Idle store) next old mid cache cache (Err stops.Disk)
    upgrade_failed disk = stopped T says.Upgrade (λ schema levels. refl) (Idle store) next old mid tt cache cache refl stops.Disk (λ t world it. record {
      any_moment = begin_between T store old mid is t it.0 it.2 world (act world says.Upgrade).0 it.1.kept;
      cost = λ cost costs. (let exact = cost_is world it cost costs in spends_more T (record { reads = 1; writes = 1 }) cost old mid (omega (arith, ap (λ (c : Cost). c.reads) exact))
          (omega (arith, ap (λ (c : Cost). c.writes) exact)) (record { reads = is.calls.reads; writes = is.calls.writes }));
    })
        (unharmed T says.Upgrade (λ schema levels. refl) (Idle store) next old mid stops.Disk tt (λ t step. absurd step))
        (record { told = is.told; cause = ((is.calls.cause.failed disk, is.calls.cause.once), is.calls.told_faults); disk_faults = tt; told_faults = is.calls.told_faults })

    -- memory ran out
    upgrade_wants : fault.why ≢ begins.Disk → CarriesOut T says.Upgrade (Idle store) next old mid cache cache (Err stops.Memory)
    upgrade_wants other = subst (λ (s : S). CarriesOut T says.Upgrade (Idle store) next old s cache cache (Err stops.Memory)) (sym (untouched other)) (runs_out T says.Upgrade (Idle store) old cache only ready next)

    pub upgrade_stops : (stop : Stop) → stop ≡ begin_stop fault.why → CarriesOut T says.Upgrade (Idle store) next old mid cache cache (Err stop)
    upgrade_stops stop told = by why
      where
        by : (fault.why ≡ begins.Memory) ⊎ (fault.why ≡ begins.Disk) → CarriesOut T says.Upgrade (Idle store) next old mid cache cache (Err stop)
        by (inl memory) = subst (λ (s : Stop). CarriesOut T says.Upgrade (Idle store) next old mid cache cache (Err s)) (sym (told ∙ ap begin_stop memory))
            (upgrade_wants (λ disk. memory_no_disk (sym memory ∙ disk)))
        by (inr disk) = subst (λ (s : Stop). CarriesOut T says.Upgrade (Idle store) next old mid cache cache (Err s)) (sym (told ∙ ap begin_stop disk)) (upgrade_failed disk)
