-- A batch is taken in at once or made pending: it is empty, or it begins.
use Rattle.script_lang.specs.declared.command.Command.TheVariants as says
use Rattle.cube_state.specs.declared.stop.Stop.TheVariants as stops
use Rattle.cube_batches.proofs.Names.{◌++◌, ◌∙◌, ◌≡◌, Answer, AttendsAs, BatchSource, BeginGives, Begun, Belongs, Block, CarriesOutAlone, Cost, Disk, Ends, Err, Fact, ForEach, Forest, Ghosts, Given}
use Rattle.cube_batches.proofs.Names.{GivesBegun, GivesGiven, Global, HasBegun, HasNone, Hollow, Idle, IsAnswer, IsFitting, IsTrue, LeavesLive, List, LoadTells, Ok, OnlyNow, Pending, RepliesAlone}
use Rattle.cube_batches.proofs.Names.{Reply, Rows, RunsFor, SaysOnly, Some, Spares, SparesOthers, Spends, Stands, State, Store, TellsDamage, TellsGivenDamage, TellsNone, Vec, Warehouse, World, [], act, ap, forest_moves, load_cost_of, Stop}
use Rattle.cube_batches.proofs.Names.{append-nil, arith, begun, beside, codes, committed, committed_text, fact_count, given_to, hollow_of, inr, length, line, live_file, live_no_root, live_of}
use Rattle.cube_batches.proofs.Names.{load_of, quiet_on, quiet_out, refl, replied, spends_more, stopped, subst, sym, unharmed, ℕ}
use Rattle.cube_state.proofs.{BatchCosts.committed_spends, Limits.empty_fits}
use Rattle.cube_batches.proofs.{Calls.answered_by, Calls.batch_told, Calls.batch_whole, Calls.between_then, Calls.closed_spares, Calls.or_out, Calls.quiet_then, Calls.rests}
use Rattle.cube_batches.proofs.{Calls.says_either, Sources.begin_answer, Sources.begin_sends, Sources.begins_is, Sources.each_load, Sources.given_some, Sources.load_answer}
use Rattle.cube_batches.proofs.{Sources.load_calls, Sources.load_gives, Sources.load_is, Sources.load_sends, Sources.rows_last, Takings.begun_fits, Takings.known}
use Rattle.cube_state.specs.Moves.{reached_by, unmoved}
use Rattle.spec_store.specs.Held.{format_for}
use Rattle.cube_batches.specs.declared.committing.Told.TheVariants.{Committed}
use Rattle.cube_batches.specs.Taking.{HasStarted}
use Rattle.cube_batches.proofs.{Calls.still_reached, Sources.load_reaches, Takings.later_for}
use Rattle.cube_state.proofs.Moves.{reached_next}
use Rattle.cube_state.proofs.Writing.{writes_on}

-- nothing was done with an empty batch
pub done_none : {S : Type 0} (source : BatchSource) (state next : State) (old new : S) (is : HasNone source state next old new) (P : State → State → S → Type 0)
    → P (Idle is.0) (Idle is.0) old → P state next new
done_none source state next old new is P here = subst (P state next) (sym is.3) (subst (λ (s : State). P state s old) (sym is.2) (subst (λ (s : State). P s s old) (sym is.1) here))

-- no fact is added
pub same_facts : (warehouse : Warehouse) → record warehouse { facts = warehouse.facts ++ []; last = warehouse.last } ≡ warehouse
same_facts warehouse = ap (λ (l : List Fact). record { schema = warehouse.schema; facts = l; last = warehouse.last }) (append-nil warehouse.facts)

-- an empty batch is acknowledged
pub empty_answer : (world : World) (warehouse : Warehouse) (store : Store) (disk : Disk) → Belongs store disk warehouse → (reply : List ℕ) → reply ≡ committed_text store.forest.body.facts
    → IsAnswer disk (committed world warehouse [] warehouse.last) (Idle store) reply
empty_answer world warehouse store disk belongs reply said = record {
  stands = (record warehouse { facts = warehouse.facts ++ []; last = warehouse.last }, record { kept = refl; pending = refl }, subst (Belongs store disk) (sym (same_facts warehouse)) belongs);
  said = said ∙ (ap committed_text belongs.stored.read.live.at.body_is.facts ∙ ap (λ (w : Warehouse). committed_text (length w.facts)) (sym (same_facts warehouse)));
}

empty_keeps : {answer : Answer} (world : World) (warehouse : Warehouse) → world.kept ≡ Some warehouse → answer ≡ committed world warehouse [] warehouse.last → answer.0.kept ≡ world.kept
empty_keeps world warehouse kept is = ap (λ (a : Answer). a.0.kept) is ∙ (ap Some (same_facts warehouse) ∙ sym kept)

-- it keeps the limits
pub empty_fitting : (source : BatchSource) (store : Store) (disk : Disk) → given_to store source ≡ Ok ([], store.forest.body.last) → (world : World) (stands : Stands (Idle store) disk world)
    → IsFitting world source stands.0 [] stands.0.last
empty_fitting source store disk given world stands = record {
  knows = stands.1;
  read = known store disk stands.0 source (Ok ([], store.forest.body.last)) stands.2 given ∙ ap (λ (n : ℕ). Ok ([], n)) stands.2.last;
  fits = empty_fits stands.0 stands.2.lawful.schema stands.2.lawful.accepted;
}

-- ---- an empty one is taken in

module _ {S : Type 0} (T : Ghosts S) (source : BatchSource) (site : S) (only : IsTrue T.tells → OnlyNow (T.disk site)) (store : Store) (given : given_to store source ≡ Ok ([], store.forest.body.last)) where
  acknowledged : (reply : Vec ℕ Global) → reply.items ≡ committed_text store.forest.body.facts → CarriesOutAlone T (load_of source) (Idle store) (Idle store) site site (Ok reply)
  acknowledged reply said = rests T (load_of source) (load_sends source).none_asked (writes_on (load_of source) (load_sends source).writes) (Idle store) (Idle store) site only reply
      (λ t world stands. subst (λ (a : Answer). IsAnswer (T.disk site) a (Idle store) reply.items)
      (sym (load_answer world source stands.0 [] stands.0.last (empty_fitting source store (T.disk site) given world stands))) (empty_answer world stands.0 store (T.disk site) stands.2 reply.items said))
      (λ world stands. still_reached (Idle store) (Idle store) refl ((load_sends source).moves world (reached_by (Idle store)) (empty_keeps world stands.0 stands.1.kept
      (load_answer world source stands.0 [] stands.0.last (empty_fitting source store (T.disk site) given world stands)))))
      (λ files levels. load_gives source levels (Idle store) files reply.items (subst (λ (g : Given). GivesGiven store files g reply.items) (sym given) said)) (λ runs. runs) (sym ((load_sends source).alone 0)) refl refl

pub loads_none : {S : Type 0} (T : Ghosts S) (source : BatchSource) (state next : State) (old new : S) → (IsTrue T.tells → OnlyNow (T.disk old)) → HasNone source state next old new
    → (result : Reply) → SaysOnly (committed_text (fact_count next)) result → CarriesOutAlone T (load_of source) state next old new result
loads_none T source state next old new only is result = done_none source state next old new is
    (λ s n site. SaysOnly (committed_text (fact_count n)) result → CarriesOutAlone T (load_of source) s n old site result)
    (or_out T (load_of source) (Idle is.0) (Idle is.0) old only (committed_text is.0.forest.body.facts) (acknowledged T source old only is.0 is.4) result)

-- ---- one that has begun is committed

-- what damage leaves
pub started_spares : {S : Type 0} (T : Ghosts S) (store : Store) (old mid : S) {batch : List Fact} {last : ℕ} {r : Begun} → HasStarted T store batch last old mid r → IsTrue T.tells → (new : S) (stop : Stop)
    → SparesOthers r.store.forest.body (T.disk mid).files (T.disk new).files stop → Spares (live_of (Idle store)) (T.disk old).files (T.disk new).files stop
started_spares T store old mid start t new stop spares = closed_spares store.forest.body (T.disk old).files (T.disk mid).files (T.disk new).files (start.closes t) stop
    (subst (λ (f : Forest). SparesOthers f.body (T.disk mid).files (T.disk new).files stop) start.forest spares)

module _ {S : Type 0} (T : Ghosts S) (source : BatchSource) (store : Store) (old mid : S) (r : Begun) (is : HasBegun T source store old mid r) where
  abbrev start : HasStarted T store is.batch is.last old mid r
  start = is.started

  load_ends : Ends T Committed (load_of source) (Idle store) r old mid
  load_ends = record {
    none_asked = (load_sends source).none_asked;
    writes = (load_sends source).writes;
    no_step = (load_sends source).no_step;
    no_live = each_load (λ s c. LeavesLive c → ⊥) (λ b is. is) (λ n b is. is) (λ s r is. is) source;
    harms = each_load (λ s c. TellsNone c → ⊥) (λ b is. is) (λ n b is. is) (λ s r is. is) source;
    reads = each_load (λ s c. RepliesAlone c → ⊥) (λ b is. is) (λ n b is. is) (λ s r is. is) source;
    alone = (load_sends source).alone 0;
    by_world = λ t world stands. (
        let fits = begun_fits T source store old mid r is t world stands in
        let acts = load_answer world source stands.0 is.batch is.last fits in
        record {
          warehouse = stands.0;
          batch = is.batch;
          last = is.last;
          attends = start.attends t stands.0 stands.2;
          kept = stands.1.kept;
          later = later_for r (T.disk mid) stands.0 is.batch (start.attends t stands.0 stands.2) (is.format ∙ ap (λ (f : Forest). format_for f.body.format is.batch) (sym start.forest));
          acts = acts;
          any_moment = λ new run. between_then store.forest.body.format (T.disk old) (T.disk mid) (T.disk new) world (act world (load_of source)).0 (start.quiet.told t)
              (start.any_moment t stands.0 stands.2 world (act world (load_of source)).0 stands.1.kept) run;
          moves = load_reaches world source stands.0 is.batch is.last fits is.some (reached_by (Idle store)) ∙ ap unmoved (sym is.format);
          calls = load_calls world source stands.0 is.batch is.last fits is.some (reached_by (Idle store));
          costs = λ cost costs new ends pages. subst (λ (c : Cost). Spends T c old new) (sym (load_is world source stands.0 is.batch is.last fits is.some (reached_by (Idle store)) cost costs
              ∙ ap (λ (f : ℕ). load_cost_of store.forest.body.format (Some stands.0) (forest_moves store.forest.body.format f stands.0.schema stands.0.facts is.batch)) (sym is.format)))
              (committed_spends T old mid new store.forest.body.format stands.0 (forest_moves store.forest.body.format r.next.format stands.0.schema stands.0.facts is.batch) start.spent r.progress.taken
              start.none_made ends pages);
        });
    quiet = λ new result then. quiet_then T old mid new start.quiet result then;
    damage = λ t levels stop told. each_load (λ s c. LoadTells (Idle store) (T.disk old).files s stop → TellsDamage levels (Idle store) (T.disk old).files c stop) (λ b is. is) (λ n b is. is) (λ s r is. is) source
        (subst (λ (g : Given). TellsGivenDamage store (T.disk old).files g stop) (sym is.given)
        (batch_told r store is.batch (T.disk old).files (T.disk mid).files (start.closes t).range.others start.forest start.points stop told));
    gives = λ t levels reply ends. load_gives source levels (Idle store) (T.disk old).files reply (subst (λ (g : Given). GivesGiven store (T.disk old).files g reply) (sym is.given)
        (given_some store (T.disk old).files is.batch reply is.some (inr (record {
          whole = batch_whole r store is.batch (T.disk old).files (T.disk mid).files (start.closes t).range.others start.forest start.points ends.whole;
          count = r.next.facts;
          said = ends.said;
        }))));
    spares = started_spares T store old mid start;
    live = ap (λ (f : Forest). Some f.body) (sym start.forest);
    schema = ap (λ (f : Forest). Some f.schema) (sym start.forest);
  }

pub loads : {S : Type 0} (T : Ghosts S) (source : BatchSource) (state : State) (old mid : S) (r : Begun) → (store : Store) × (state ≡ Idle store) × HasBegun T source store old mid r
    → Ends T Committed (load_of source) state r old mid
loads T source state old mid r is = subst (λ (s : State). Ends T Committed (load_of source) s r old mid) (sym is.1) (load_ends T source is.0 old mid r is.2)

-- ---- an empty one is made pending

module _ {S : Type 0} (T : Ghosts S) (block : Block) (site : S) (only : IsTrue T.tells → OnlyNow (T.disk site)) (store : Store) (given : given_to store (Rows block) ≡ Ok ([], store.forest.body.last)) where
  hollows : (reply : Vec ℕ Global) → reply.items ≡ line (codes "begun") → CarriesOutAlone T (says.Begin block) (Idle store) (Hollow store) site site (Ok reply)
  hollows reply said = rests T (says.Begin block) (λ schema levels. refl) (λ leaves. leaves.0) (Idle store) (Hollow store) site only reply
      (λ t world stands. answered_by (T.disk site) (act world (says.Begin block)) (begun world []) (Hollow store) reply.items
      (begin_answer world block stands.0 [] stands.0.last (empty_fitting (Rows block) store (T.disk site) given world stands)) (stands.0, record { kept = stands.1.kept; pending = refl }, stands.2) said)
      (λ world stands. record { format = refl; made = refl }) (λ files levels. subst (λ (g : Given). GivesBegun store g reply.items) (sym given) (inr said)) (λ runs. record { running = runs.running; fit = runs.fit }) refl refl refl

pub begins_none : {S : Type 0} (T : Ghosts S) (block : Block) (state next final : State) (old new : S) → (IsTrue T.tells → OnlyNow (T.disk old)) → HasNone (Rows block) state next old new
    → final ≡ hollow_of next → (result : Reply) → SaysOnly (line (codes "begun")) result → CarriesOutAlone T (says.Begin block) state final old new result
begins_none T block state next final old new only is hollow result said = subst (λ (f : State). CarriesOutAlone T (says.Begin block) state f old new result) (sym hollow)
    (done_none (Rows block) state next old new is (λ s n site. CarriesOutAlone T (says.Begin block) s (hollow_of n) old site result)
    (or_out T (says.Begin block) (Idle is.0) (Hollow is.0) old only (line (codes "begun")) (hollows T block old only is.0 is.4) result said))

-- ---- one that has begun is made pending

module _ {S : Type 0} (T : Ghosts S) (block : Block) (store : Store) (old new : S) (r : Begun) (is : HasBegun T (Rows block) store old new r) where
  begin_runs : ForEach T (Idle store) old (RunsFor T (says.Begin block) (Idle store) old new)
  begin_runs t world stands = record {
    any_moment = is.started.any_moment t stands.0 stands.2 world (act world (says.Begin block)).0 stands.1.kept;
    cost = λ cost costs. (let least = (begin_sends block).costs world (reached_by (Idle store)) cost costs stands.0 is.batch is.last (begun_fits T (Rows block) store old new r is t world stands) is.some in
        spends_more T (record { reads = 1; writes = 1 }) cost old new least.0 least.1 is.started.spent);
  }

  begins_some : CarriesOutAlone T (says.Begin block) (Idle store) (Pending r) old new (Err stops.Memory)
      × ((reply : Vec ℕ Global) → reply.items ≡ line (codes "begun") → CarriesOutAlone T (says.Begin block) (Idle store) (Pending r) old new (Ok reply))
  begins_some = (
    λ cache ready. stopped T (says.Begin block) (λ schema levels. refl) (Idle store) (Pending r) old new tt cache cache refl stops.Memory begin_runs
        (unharmed T (says.Begin block) (λ schema levels. refl) (Idle store) (Pending r) old new stops.Memory tt (λ t step. absurd step)) (quiet_out is.started.quiet),
    λ reply said cache ready.
        let gives : BeginGives (Idle store) block reply.items = subst (λ (g : Given). GivesBegun store g reply.items) (sym is.given) (inr said) in
        replied T (says.Begin block) (λ schema levels. refl) (Idle store) (Pending r) old new cache cache reply begin_runs (record {
          answer = λ t world stands. (let fits = begun_fits T (Rows block) store old new r is t world stands in
              answered_by (T.disk new) (act world (says.Begin block)) (begun world is.batch) (Pending r) reply.items (begin_answer world block stands.0 is.batch is.last fits) (
                stands.0,
                is.batch,
                record { kept = stands.1.kept; pending = refl },
                record {
                  attends = subst (λ n. AttendsAs n r (T.disk new) stands.0 is.batch) (rows_last stands.0.schema stands.0.last is.last block is.batch fits.read) (is.started.attends t stands.0 stands.2);
                  some = is.some;
                  format = is.format ∙ ap (λ (f : Forest). format_for f.body.format is.batch) (sym is.started.forest);
                },
              ) said);
          moved = λ t world stands. reached_next world (says.Begin block) (Idle store) (Pending r) refl (ap (λ (f : Forest). Some f.body) is.started.forest) is.started.none_made;
          uncalled = λ t world stands none. absurd (omega (arith, none, begins_is world block stands.0 is.batch is.last (begun_fits T (Rows block) store old new r is t world stands) is.some));
          answered = λ t levels. gives;
          runs = record { running = is.started.goes; fit = is.started.ready };
          busy = λ leaves. leaves.0;
          schema = λ declared has. ap (λ (f : Forest). Some f.schema) is.started.forest ∙ has;
          made = λ no. is.started.none_made;
          said = λ alone files levels. gives;
        })
        (beside T (says.Begin block) (λ schema levels. refl) (Idle store) (Pending r) old new cache ready (ap (λ (f : Forest). Some f.body) is.started.forest)
        (λ t. (is.started.closes t).range.others (live_file (live_of (Idle store))) (live_no_root (live_of (Idle store)))) (λ no. absurd (no tt)))
        (quiet_on is.started.quiet),
  )

pub begins_on : {S : Type 0} (T : Ghosts S) (block : Block) (state final : State) (old new : S) (r : Begun) → (store : Store) × (state ≡ Idle store) × HasBegun T (Rows block) store old new r
    → final ≡ Pending r → (result : Reply) → SaysOnly (line (codes "begun")) result → CarriesOutAlone T (says.Begin block) state final old new result
begins_on T block state final old new r is pending result said =
    let both = begins_some T block is.0 old new r is.2 in
    subst (λ (s : State × State). CarriesOutAlone T (says.Begin block) s.0 s.1 old new result) (λ i. (sym is.1 i, sym pending i))
    (says_either (CarriesOutAlone T (says.Begin block) (Idle is.0) (Pending r) old new) (line (codes "begun")) both.1 both.0 result said)
