-- What becomes of the batch of a source, at each end of taking it in.
use Rattle.cube_state.specs.declared.stop.Stop.TheVariants as stops
use Rattle.forest_refresh.specs.declared.stop.BeginStop.TheVariants as begins
use Rattle.cube_batches.proofs.Names.{◌*◌, ◌++◌, ◌+◌, ◌<◌, ◌∙◌, ◌≡◌, ◌≢◌, ◌≤◌, ◌⊎◌, Agrees, All, All-append, Answer, Answers, AreAccepted, AttendsAs, Batch, BatchSource, Began}
use Rattle.cube_batches.proofs.Names.{BeginFault, BeginStop, Begun, Belongs, Between, CarriesOut, Disk, Empty, Err, Fact, Files, Forest, Ghosts, Given, Global, HasBegun, Hollow}
use Rattle.cube_batches.proofs.Names.{Idle, IfSome, IsBack, IsBatchFor, IsFitting, IsLive, IsOpened, IsRead, IsReady, IsRefreshOf, IsStable, IsStoreOf, IsTrue, Keeps, Kept, LeavesOnly}
use Rattle.cube_batches.proofs.Names.{List, None, NotRead, Nothing, Ok, OnlyNow, OnlyRefuses, Option, Pending, Read, Refused, RefusesBy, RefusesGiven, Result, RunsOn, Schema, Some, Stands, StandsAt}
use Rattle.cube_batches.proofs.Names.{Command, Sends, State, Stop, Store, Taken, TakesIn, TellsLimit, Vec, Warehouse, World, [], act, answer_by, ap, arith, batch_from, begin_stop, bytes_after, codes, given_to}
use Rattle.cube_batches.proofs.Names.{goes_nowhere, holds_to, inl, inr, last_behind, length, line, moves_made, next_side, nothing_added, refl, refusal_of, refusal_text, runs_out, says, slice_index}
use Rattle.cube_batches.proofs.Names.{spends_more, stable_holds, stopped, subst, sym, take, take_over, unharmed, unless, wider, written, ℕ}
use Rattle.cube_batches.proofs.Names.{says_just}
use Rattle.cube_state.proofs.{Limits.none_refused, Limits.one_refused, Standing.keeps_from}
use Rattle.spec_store.proofs.{Formats.format-later, Standing.in_some}
use Rattle.spec_store.specs.Held.{KeepsAs, format_for}
use Rattle.cube_batches.proofs.{Calls.answered_by, Calls.rests, Calls.still_reached, Sources.answer_batch, Sources.answer_read}
use Rattle.forest_refresh.specs.Begins.{Begins}
use Rattle.forest_refresh.specs.Begun.{moves_of}
use Rattle.cube_state.specs.Moves.{format_of, reached_by}
use Rattle.cube_state.proofs.Writing.{writes_on}

-- ---- the store, the refresh and the warehouse

-- no move is made
pub none_moved : (r : Begun) (files : Files) (facts batch : List Fact) → r.progress.taken ≡ 0 → StandsAt r facts batch files
none_moved r files facts batch none = record {
  within = omega (arith, none);
  pages = (λ i. take (4096 * written (none i) (moves_of r facts batch)) (files (next_side r.store.forest.body)))
      ∙ (λ i. bytes_after r.store.forest.body.format r.next.format r.store.forest.schema facts batch (sym none i));
}

-- the number of a batch is the next one, or none
last_due : (last : ℕ) (number : Option ℕ) → IfSome number (λ n. n ≡ last + 1) → last_behind last number ≤ last + 1
last_due last (Some n) is = omega (arith, is)
last_due last None is = omega arith

module _ (store : Store) (old new : Disk) (warehouse : Warehouse) (is : Belongs store old warehouse) where
  -- at every moment the files keep what they kept
  pub begin_moments : (world next : World) → world.kept ≡ Some warehouse
      → LeavesOnly old new (λ told files. (told ≡ old.told) × KeepsAs store.forest.body.format store.forest.schema warehouse.facts store.forest.body.last files)
      → Between store.forest.body.format old new world next
  begin_moments world next kept run = wider old new _ _ (λ told files both. (
    both.0,
    inl (subst (Keeps files) (sym kept) (record {
      lawful = is.lawful;
      kept = in_some (subst (λ (k : Schema × ℕ). KeepsAs store.forest.body.format k.0 warehouse.facts k.1 files) (λ i. (is.schema i, is.last i)) both.1);
    })),
    keeps_from store.forest.schema warehouse.facts store.forest.body.last files (omega arith) both.1,
  )) run

  -- it has begun
  pub begin_attends : (batch : List Fact) (number : Option ℕ) (r : Begun) → r.store.forest ≡ store.forest → r.next.last ≡ last_behind store.forest.body.last number
      → IfSome number (λ n. n ≡ store.forest.body.last + 1) → IsRefreshOf r warehouse.facts batch new.files → IsStable new → 0 < length batch → IsReady r new → r.progress.taken ≡ 0
      → AttendsAs (last_behind store.forest.body.last number) r new warehouse batch
  begin_attends batch number r same next due adds stable some ready none = record {
    lawful = is.lawful;
    schema = ap (λ (f : Forest). f.schema) same ∙ is.schema;
    last = ap (λ (f : Forest). f.body.last) same ∙ is.last;
    next = next;
    counted = omega (arith, is.last, is.lawful.last, some, last_due store.forest.body.last number due);
    adds = stable_holds (IsRefreshOf r warehouse.facts batch) new stable adds;
    ready = ready;
    moved = none_moved r new.files warehouse.facts batch none;
  }

-- a batch goes into pages of no earlier format
pub later_for : {last : ℕ} (r : Begun) (disk : Disk) (warehouse : Warehouse) (batch : List Fact) → AttendsAs last r disk warehouse batch → r.next.format ≡ format_for r.store.forest.body.format batch
    → r.store.forest.body.format ≤ r.next.format
later_for r disk warehouse batch is format =
    subst (λ (f : ℕ). r.store.forest.body.format ≤ f) (sym format) (format-later r.store.forest.body.format (format_for r.store.forest.body.format batch) batch refl is.adds.read.live.at.decodes.1.within.known_format)

-- all facts keep the limits
pub all_fine : {last : ℕ} (r : Begun) (new : Disk) (warehouse : Warehouse) (batch : List Fact) → AttendsAs last r new warehouse batch → AreAccepted warehouse.schema (warehouse.facts ++ batch)
all_fine r new warehouse batch is = subst (λ (s : Schema). AreAccepted s (warehouse.facts ++ batch)) is.schema is.adds.read.all

-- the store is handed back
module _ (store back : Store) (same : IsBack store back) where
  pub back_belongs : (disk : Disk) (warehouse : Warehouse) → Belongs store disk warehouse → Belongs back disk warehouse
  back_belongs disk warehouse is = record {
    lawful = is.lawful;
    schema = ap (λ (f : Forest). f.schema) same.forest ∙ is.schema;
    last = ap (λ (f : Forest). f.body.last) same.forest ∙ is.last;
    stored = holds_to (IsStoreOf store warehouse.facts) (IsStoreOf back warehouse.facts) disk (λ files stored. record {
      accepted = subst (λ (f : Forest). AreAccepted f.schema warehouse.facts) (sym same.forest) stored.accepted;
      live = subst (λ (f : Forest). IsLive f.schema f.body warehouse.facts files) (sym same.forest) stored.live;
      names = λ a. (λ i. take (slice_index (same.shown i).at a) (same.names a i)) ∙ stored.names a;
    }) is.stored;
    opened = subst (λ (f : Forest). IsOpened f.body disk) (sym same.forest) is.opened;
  }

  pub back_runs : {S : Type 0} (T : Ghosts S) (site : S) → RunsOn T site (Idle store) → RunsOn T site (Idle back)
  back_runs T site runs = record {
    running = λ a. (λ i. slice_index (same.shown i).at a) ∙ (runs.running a ∙ sym (ap length (same.names a)));
    fit = λ t. subst (λ (f : Forest). IsOpened f.body (T.disk site)) (sym same.forest) (runs.fit t);
  }

-- where a limit is passed the plain machine refuses so
pub by_limit : (store : Store) (disk : Disk) (warehouse : Warehouse) (batch : List Fact) (why : BeginStop) → Belongs store disk warehouse → All (Agrees store.forest.schema) batch
    → TellsLimit store.forest.schema (warehouse.facts ++ batch) why → (text : List ℕ) → refusal_text store.forest.schema why ≡ Some text
    → refusal_of warehouse.schema (warehouse.facts ++ batch) ≡ Some text
by_limit store disk warehouse batch why is each limit text refused =
    one_refused warehouse batch is.lawful.schema
    (All-append (Agrees warehouse.schema) warehouse.facts batch is.lawful.accepted.each (subst (λ (s : Schema). All (Agrees s) batch) is.schema each)) why text
    (subst (λ (s : Schema). TellsLimit s (warehouse.facts ++ batch) why) is.schema limit) (subst (λ (s : Schema). refusal_text s why ≡ Some text) is.schema refused)

-- ---- no call was made

module _ {S : Type 0} (T : Ghosts S) (source : BatchSource) (state : State) (site : S) (only : IsTrue T.tells → OnlyNow (T.disk site)) where
  -- memory runs out
  pub wants : (next : State) → Answers T source state next site site (Err stops.Memory)
  wants next = λ command sends cache ready. runs_out T command state site cache only ready next

  -- it is refused
  refuses : (text : List ℕ) → ((world : World) → Stands state (T.disk site) world → (after : Warehouse → List Fact → ℕ → Answer) → answer_by world after source ≡ (world, text))
      → RefusesBy state source text → (reply : Vec ℕ Global) → reply.items ≡ text → Answers T source state state site site (Ok reply)
  refuses text answers by reply said = λ command sends cache ready. says T command state site cache only text reply ready (λ levels. record {
    acts = λ t world known stands. says_just world _ _ (sends.acts world ∙ answers world stands (sends.after world));
    moves = λ t world stands. sends.moves world (reached_by state) (ap (λ (a : Answer). a.0.kept) (sends.acts world ∙ answers world stands (sends.after world)));
    goes = λ t world known stands numbers goes. goes_nowhere command sends.none_asked (format_of state) world numbers goes;
    gives = λ files. sends.refuses levels state files text by;
    alone = λ no. sends.alone (moves_made state);
  }) said

  -- with this line
  refuses_line : (text : List ℕ) → ((world : World) → Stands state (T.disk site) world → (after : Warehouse → List Fact → ℕ → Answer) → answer_by world after source ≡ (world, line text))
      → RefusesBy state source (line text) → (result : Result Taken Stop) → OnlyRefuses text result → TakesIn T source state state site site result
  refuses_line text answers by (Ok (Refused reply)) is = refuses (line text) answers by reply is
  refuses_line text answers by (Ok Nothing) is = absurd is
  refuses_line text answers by (Ok (Began r)) is = absurd is
  refuses_line text answers by (Err stop) is = subst (λ (s : Stop). Answers T source state state site site (Err s)) (sym is) (wants state)

-- without a schema, and while another is pending
module _ {S : Type 0} (T : Ghosts S) (source : BatchSource) (site : S) (only : IsTrue T.tells → OnlyNow (T.disk site)) where
  abbrev over : World → (Warehouse → List Fact → ℕ → Answer) → Kept → Option (List Fact) → Answer
  over world after kept pending =
      take_over world (λ warehouse batch last. unless world (after warehouse batch last) (refusal_of warehouse.schema (warehouse.facts ++ batch))) kept pending source

  pub empty_refuses : (result : Result Taken Stop) → OnlyRefuses (codes "refused no schema") result → TakesIn T source Empty Empty site site result
  empty_refuses = refuses_line T source Empty site only (codes "refused no schema") (λ world stands after. (λ i. over world after (stands.0.kept i) (stands.0.pending i))) refl

  pub busy_refuses : (state : State) → ((store : Store) × (state ≡ Hollow store)) ⊎ ((r : Begun) × (state ≡ Pending r)) → (result : Result Taken Stop)
      → OnlyRefuses (codes "refused pending") result → TakesIn T source state state site site result
  busy_refuses state (inl hollow) result is = subst (λ (s : State). TakesIn T source s s site site result) (sym hollow.1)
      (refuses_line T source (Hollow hollow.0) site only (codes "refused pending") (λ world stands after. (λ i. over world after (stands.1.kept i) (stands.1.pending i))) refl result is)
  busy_refuses state (inr pending) result is = subst (λ (s : State). TakesIn T source s s site site result) (sym pending.1)
      (refuses_line T source (Pending pending.0) site only (codes "refused pending") (λ world stands after. (λ i. over world after (stands.2.kept i) (stands.2.pending i))) refl result is)

-- ---- what was read

-- what was given by the schema of the store is given by that of the warehouse
pub known : (store : Store) (disk : Disk) (warehouse : Warehouse) (source : BatchSource) (given : Given) → Belongs store disk warehouse → given_to store source ≡ given
    → batch_from warehouse.schema warehouse.last source ≡ given
known store disk warehouse source given is read = (λ i. batch_from (sym is.schema i) (sym is.last i) source) ∙ read

-- the text that was read as the refusal
read_none : (schema : Schema) (last : ℕ) (given : Given) (reply : Vec ℕ Global) → IsRead schema last given (NotRead reply) → given ≡ Err reply.items
read_none schema last (Ok given) reply is = absurd is
read_none schema last (Err text) reply is = ap Err (sym is)

-- the batch that was read
read_batch : (schema : Schema) (last : ℕ) (given : Given) (batch : List Fact) (number : Option ℕ) → IsRead schema last given (Batch batch number)
    → (given ≡ Ok (batch, last_behind last number)) × IsBatchFor schema last batch number
read_batch schema last (Ok given) batch number is = ((λ i. Ok (is.facts i, is.next i)), is.fits)
read_batch schema last (Err text) batch number is = absurd is

-- an empty one has no number
no_number : (last : ℕ) (number : Option ℕ) (batch : List Fact) → IfSome number (λ n. 0 < length batch) → length batch ≡ 0 → last_behind last number ≡ last
no_number last (Some n) batch some none = absurd (omega (arith, some, none))
no_number last None batch some none = refl

module _ (source : BatchSource) (store : Store) (read : Read) (is : IsRead store.forest.schema store.forest.body.last (given_to store source) read) where
  -- the source gives none
  pub source_refuses : {S : Type 0} (T : Ghosts S) (site : S) → (IsTrue T.tells → OnlyNow (T.disk site)) → (reply : Vec ℕ Global) → read ≡ NotRead reply
      → Answers T source (Idle store) (Idle store) site site (Ok reply)
  source_refuses T site only reply same =
      let none = read_none store.forest.schema store.forest.body.last (given_to store source) reply (subst (IsRead store.forest.schema store.forest.body.last (given_to store source)) same is) in
      refuses T source (Idle store) site only reply.items
      (λ world stands after. answer_read world source after stands.0 stands.1 (Err reply.items) (known store (T.disk site) stands.0 source (Err reply.items) stands.2 none))
      (subst (λ (g : Given). RefusesGiven store g reply.items) (sym none) refl) reply refl

  module _ (batch : List Fact) (number : Option ℕ) (same : read ≡ Batch batch number) where
    both : (given_to store source ≡ Ok (batch, last_behind store.forest.body.last number)) × IsBatchFor store.forest.schema store.forest.body.last batch number
    both = read_batch store.forest.schema store.forest.body.last (given_to store source) batch number (subst (IsRead store.forest.schema store.forest.body.last (given_to store source)) same is)

    -- it is empty
    pub empty_given : length batch ≡ 0 → given_to store source ≡ Ok ([], store.forest.body.last)
    empty_given none = both.0 ∙ (λ i. Ok (nothing_added batch none i, no_number store.forest.body.last number batch both.1.some none i))

    -- it may begin, for the store as it was taken out
    pub batch_given : (state : State) (out : Store) → state ≡ Idle store → state ≡ Idle out
        → (given_to out source ≡ Ok (batch, last_behind out.forest.body.last number)) × IsBatchFor out.forest.schema out.forest.body.last batch number
    batch_given state out one other =
        subst (λ (s : Store). (given_to s source ≡ Ok (batch, last_behind s.forest.body.last number)) × IsBatchFor s.forest.schema s.forest.body.last batch number) (same_store (sym one ∙ other)) both
      where
        same_store : {a b : Store} → Idle a ≡ Idle b → a ≡ b
        same_store is = cc

-- ---- it has a fact

pub begin_between : {S : Type 0} (T : Ghosts S) (store : Store) {batch : List Fact} (old new : S) {result : Result Begun BeginFault} → Begins T store batch old new result → IsTrue T.tells
    → (warehouse : Warehouse) → Belongs store (T.disk old) warehouse → (world next : World) → world.kept ≡ Some warehouse → Between store.forest.body.format (T.disk old) (T.disk new) world next
begin_between T store old new is t warehouse belongs world next kept = begin_moments store (T.disk old) (T.disk new) warehouse belongs world next kept ((is.by_facts t warehouse.facts).any_moment belongs.stored)

-- it keeps the limits where it has begun
pub begun_fits : {S : Type 0} (T : Ghosts S) (source : BatchSource) (store : Store) (old new : S) (r : Begun) (is : HasBegun T source store old new r) → IsTrue T.tells
    → (world : World) (stands : Stands (Idle store) (T.disk old) world) → IsFitting world source stands.0 is.batch is.last
begun_fits T source store old new r is t world stands = record {
  knows = stands.1;
  read = known store (T.disk old) stands.0 source (Ok (is.batch, is.last)) stands.2 is.given;
  fits = none_refused stands.0 is.batch stands.2.lawful.schema (all_fine r (T.disk new) stands.0 is.batch (is.started.attends t stands.0 stands.2));
}

-- a file failed, or nothing was called
why_stops : (why : BeginStop) → (why ≡ begins.Disk) ⊎ ((begin_stop why ≡ stops.Memory) × (why ≢ begins.Disk))
why_stops begins.Disk = inl refl
why_stops begins.Memory = inr (refl, λ e. cc)
why_stops begins.FactsFull = inr (refl, λ e. cc)
why_stops (begins.NamesFull a) = inr (refl, λ e. cc)
why_stops (begins.Mass m) = inr (refl, λ e. cc)

-- a refusal has a limit as its cause
no_fault : (schema : Schema) (why : BeginStop) (text : List ℕ) → refusal_text schema why ≡ Some text → why ≢ begins.Disk
no_fault schema why text refused is = let none : refusal_text schema begins.Disk ≡ Some text = subst (λ (w : BeginStop). refusal_text schema w ≡ Some text) is refused in absurd (cc)

module _ {S : Type 0} (T : Ghosts S) (source : BatchSource) (store : Store) (batch : List Fact) (last : ℕ) (old new : S) (some : 0 < length batch) (given : given_to store source ≡ Ok (batch, last))
    (fault : BeginFault) (limit : (accepted : List Fact) (files : Files) → IsStoreOf store accepted files → TellsLimit store.forest.schema (accepted ++ batch) fault.why)
    (unchanged : fault.why ≢ begins.Disk → new ≡ old) (only : IsTrue T.tells → OnlyNow (T.disk old)) where
  read_by_world : (world : World) (stands : Stands (Idle store) (T.disk old) world) → batch_from stands.0.schema stands.0.last source ≡ Ok (batch, last)
  read_by_world world stands = known store (T.disk old) stands.0 source (Ok (batch, last)) stands.2 given

  refused : (command : Command) (sends : Sends command source) → All (Agrees store.forest.schema) batch → (text : List ℕ) → refusal_text store.forest.schema fault.why ≡ Some text
      → (world : World) → Stands (Idle store) (T.disk old) world → act world command ≡ (world, text)
  refused command sends agree text here world stands =
      sends.acts world ∙ answer_batch world source (sends.after world) stands.0 stands.1 batch last (Some text) (read_by_world world stands)
      (by_limit store (T.disk old) stands.0 batch fault.why stands.2 agree (limit stands.0.facts (T.disk old).files stands.2.stored.read) text here)

  -- a limit is why it has not begun
  pub limit_refuses : All (Agrees store.forest.schema) batch → IsBack store fault.store → (reply : Vec ℕ Global) → refusal_text fault.store.forest.schema fault.why ≡ Some reply.items
      → Answers T source (Idle store) (Idle fault.store) old new (Ok reply)
  limit_refuses agree back reply by_text = λ command sends cache ready.
      let here : refusal_text store.forest.schema fault.why ≡ Some reply.items = subst (λ (f : Forest). refusal_text f.schema fault.why ≡ Some reply.items) back.forest by_text in
      let by : RefusesBy (Idle store) source reply.items = subst (λ (g : Given). RefusesGiven store g reply.items) (sym given) (some, (fault.why, here)) in
      subst (λ (s : S). CarriesOut T command (Idle store) (Idle fault.store) old s cache cache (Ok reply)) (sym (unchanged (no_fault store.forest.schema fault.why reply.items here)))
      (rests T command sends.none_asked (writes_on command sends.writes) (Idle store) (Idle fault.store) old only reply
      (λ t world stands. answered_by (T.disk old) (act world command) (world, reply.items) (Idle fault.store) reply.items (refused command sends agree reply.items here world stands)
      (stands.0, stands.1, back_belongs store fault.store back (T.disk old) stands.0 stands.2) refl)
      (λ world stands. still_reached (Idle store) (Idle fault.store) refl (sends.moves world (reached_by (Idle store)) (ap (λ (a : Answer). a.0.kept) (refused command sends agree reply.items here world stands)))) (λ files levels. sends.refuses levels (Idle store) files reply.items by) (back_runs store fault.store back T old) (sym (sends.alone 0))
      (ap (λ (f : Forest). Some f.body) back.forest) (ap (λ (f : Forest). Some f.schema) back.forest) cache ready)

  -- none is
  pub starts_not : Begins T store batch old new (Err fault) → (next : State) (stop : Stop) → stop ≡ begin_stop fault.why → Answers T source (Idle store) next old new (Err stop)
  starts_not is next stop why = by (why_stops fault.why)
    where
      failed : fault.why ≡ begins.Disk → Answers T source (Idle store) next old new (Err stops.Disk)
      failed disk = λ command sends cache ready. stopped T command sends.none_asked (Idle store) next old new sends.writes cache cache refl stops.Disk
          (λ t world stands. record {
            any_moment = begin_between T store old new is t stands.0 stands.2 world (act world command).0 stands.1.kept;
            cost = λ cost costs. (let least = sends.costs world (reached_by (Idle store)) cost costs stands.0 batch last (record {
              knows = stands.1;
              read = read_by_world world stands;
              fits = none_refused stands.0 batch stands.2.lawful.schema (subst (λ (s : Schema). AreAccepted s (stands.0.facts ++ batch)) stands.2.schema
                  (subst (TellsLimit store.forest.schema (stands.0.facts ++ batch)) disk (limit stands.0.facts (T.disk old).files stands.2.stored.read)));
            }) some in spends_more T (record { reads = 1; writes = 1 }) cost old new least.0 least.1 (record { reads = is.calls.reads; writes = is.calls.writes }));
          })
          (unharmed T command sends.none_asked (Idle store) next old new stops.Disk tt (λ t step. absurd (sends.no_step step)))
          (record { told = is.told; cause = ((is.calls.cause.failed disk, is.calls.cause.once), is.calls.told_faults); disk_faults = tt; told_faults = is.calls.told_faults })

      by : (fault.why ≡ begins.Disk) ⊎ ((begin_stop fault.why ≡ stops.Memory) × (fault.why ≢ begins.Disk)) → Answers T source (Idle store) next old new (Err stop)
      by (inl disk) = subst (λ (s : Stop). Answers T source (Idle store) next old new (Err s)) (sym (why ∙ ap begin_stop disk)) (failed disk)
      by (inr other) = subst (λ (s : S × Stop). Answers T source (Idle store) next old s.0 (Err s.1)) (λ i. (sym (unchanged other.1) i, sym (why ∙ other.0) i))
          (wants T source (Idle store) old only next)
