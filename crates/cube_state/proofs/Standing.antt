-- What a session that stands for a world tells of the files.
use Rattle.std.proofs.Common.{◌≡◌, ◌≤◌, ℕ, List, [], Option, Some, None, arith, sym, ◌∙◌, ap, subst}
use Rattle.site_core.specs.Calls.{Emits, Rests}
use Rattle.site_core.specs.Disk.{Files, Disk}
use Rattle.site_core.specs.Moments.{HoldsNow, IsStable}
use Rattle.site_core.proofs.Run.{holds_to}
use Rattle.cube_schema.specs.declared.schema.Schema.{Schema}
use Rattle.fact_model.specs.declared.fact.Fact.{Fact}
use Rattle.forest_refresh.specs.Begun.{Begun, HasMoved, IsReady, IsRefreshOf, StandsAt}
use Rattle.forest_root.specs.Keeps.{KeepsNothing}
use Rattle.forest_root.specs.Root.{IsShut, RootIsStable}
use Rattle.forest_root.specs.declared.body.Body.{Body}
use Rattle.forest_commit.specs.Commit.{slot_of}
use Rattle.forest_root.specs.declared.forest.Store.{Store}
use Rattle.spec_store.specs.Held.{KeepsAs, KeepsFacts}
use Rattle.spec_store.specs.Opened.{HasRoot, IsOpened}
use Rattle.spec_store.specs.Stored.{IsStoreOf}
use Rattle.spec_store.proofs.Standing.{body_format, in_some, live_keeps}
use Rattle.spec_machine.specs.World.{Kept, Knows, World, Warehouse}
use Rattle.spec_crash.specs.Keeps.{IsFrom, Keeps, KeepsWarehouse}
use Rattle.cube_state.specs.declared.state.State.{State}
use Rattle.cube_state.specs.declared.state.State.TheVariants.{Empty, Idle, Hollow, Pending}
use Rattle.cube_state.specs.Moves.{format_of}
use Rattle.cube_state.specs.Session.{Attends, AttendsAs, Belongs, IsFit, Stands}

pub belongs_read : (store : Store) (disk : Disk) (warehouse : Warehouse) → Belongs store disk warehouse → KeepsWarehouse disk.files warehouse
belongs_read store disk warehouse is = record {
  lawful = is.lawful;
  kept = subst (λ (s : Schema). KeepsFacts s warehouse.facts warehouse.last disk.files) is.schema
      (subst (λ n. KeepsFacts store.forest.schema warehouse.facts n disk.files) is.last (in_some (live_keeps store.forest.schema store.forest.body warehouse.facts disk.files is.stored.read.live)));
}

-- and so do all that a stop now may leave
pub belongs_left : (store : Store) (disk : Disk) (warehouse : Warehouse) → Belongs store disk warehouse → (files : Files) → disk.may_leave files
    → KeepsWarehouse files warehouse
belongs_left store disk warehouse is files left = record {
  lawful = is.lawful;
  kept = subst (λ (s : Schema). KeepsFacts s warehouse.facts warehouse.last files) is.schema
      (subst (λ n. KeepsFacts store.forest.schema warehouse.facts n files) is.last (in_some (live_keeps store.forest.schema store.forest.body warehouse.facts files (is.stored.left files left).live)));
}

-- a batch that is pending keeps the facts without it
pub attends_belongs : {last : ℕ} (r : Begun) (disk : Disk) (warehouse : Warehouse) (batch : List Fact) → AttendsAs last r disk warehouse batch → Belongs r.store disk warehouse
attends_belongs r disk warehouse batch is = record {
  lawful = is.lawful;
  schema = is.schema;
  last = is.last;
  stored = holds_to (IsRefreshOf r warehouse.facts batch) (IsStoreOf r.store warehouse.facts) disk
      (λ files adds. record { accepted = adds.accepted; live = adds.live; names = adds.shown }) is.adds;
  opened = is.ready.opened;
}

pub stands_read : (state : State) (disk : Disk) (world : World) → Stands state disk world → Keeps disk.files world.kept
stands_read Empty disk world is = subst (Keeps disk.files) (sym is.0.kept) is.1.nothing
stands_read (Idle store) disk world is = subst (Keeps disk.files) (sym is.1.kept) (belongs_read store disk is.0 is.2)
stands_read (Hollow store) disk world is = subst (Keeps disk.files) (sym is.1.kept) (belongs_read store disk is.0 is.2)
stands_read (Pending r) disk world is = subst (Keeps disk.files) (sym is.2.kept) (belongs_read r.store disk is.0 (attends_belongs r disk is.0 is.1 is.3.attends))

-- what a stop leaves now
pub stands_left : (state : State) (disk : Disk) (world : World) → Stands state disk world
    → (files : Files) → disk.may_leave files → Keeps files world.kept
stands_left Empty disk world is files left =
    subst (λ (f : Files). Keeps f world.kept) (sym (is.1.stable files left)) (stands_read Empty disk world is)
stands_left (Idle store) disk world is files left = subst (Keeps files) (sym is.1.kept) (belongs_left store disk is.0 is.2 files left)
stands_left (Hollow store) disk world is files left = subst (Keeps files) (sym is.1.kept) (belongs_left store disk is.0 is.2 files left)
stands_left (Pending r) disk world is files left =
    subst (Keeps files) (sym is.2.kept) (belongs_left r.store disk is.0 (attends_belongs r disk is.0 is.1 is.3.attends) files left)

-- files that keep facts in this format, or in a later one
pub keeps_from : {least format : ℕ} (schema : Schema) (facts : List Fact) (last : ℕ) (files : Files) → least ≤ format → KeepsAs format schema facts last files → IsFrom least files
keeps_from schema facts last files low is body live = omega (arith, low, body_format schema facts last files is body live)

belongs_from : (store : Store) (disk : Disk) (warehouse : Warehouse) → Belongs store disk warehouse → (files : Files) → disk.may_leave files → IsFrom store.forest.body.format files
belongs_from store disk warehouse is files left = keeps_from store.forest.schema warehouse.facts store.forest.body.last files (omega arith)
    (live_keeps store.forest.schema store.forest.body warehouse.facts files (is.stored.left files left).live)

-- and has no earlier format
pub stands_from : (state : State) (disk : Disk) (world : World) → Stands state disk world → (files : Files) → disk.may_leave files → IsFrom (format_of state) files
stands_from Empty disk world is files left = λ body live. live.decodes.1.within.some_format
stands_from (Idle store) disk world is files left = belongs_from store disk is.0 is.2 files left
stands_from (Hollow store) disk world is files left = belongs_from store disk is.0 is.2 files left
stands_from (Pending r) disk world is files left = belongs_from r.store disk is.0 (attends_belongs r disk is.0 is.1 is.3.attends) files left

-- a session that stands fits its files
pub stands_fit : (state : State) (disk : Disk) (world : World) → Stands state disk world → IsFit state disk
stands_fit Empty disk world is = is.1
stands_fit (Idle store) disk world is = is.2.opened
stands_fit (Hollow store) disk world is = is.2.opened
stands_fit (Pending r) disk world is = is.3.attends.ready

-- ---- calls that change no file, neither as a read gives it nor as a stop leaves it

module _ (old new : Disk) (same : new.files ≡ old.files) (left : (files : Files) → new.may_leave files → old.may_leave files) where
  holds_on : (P : Files → Type 0) → HoldsNow P old → HoldsNow P new
  holds_on P is = record { read = subst P (sym same) is.read; left = λ files may. is.left files (left files may) }

  stable_on : IsStable old → IsStable new
  stable_on stable = λ files may. stable files (left files may) ∙ sym same

  root_on : RootIsStable old → RootIsStable new
  root_on stable = λ files may. stable files (left files may) ∙ ap (λ (f : Files). f 0) (sym same)

  opened_on : (live : Body) → IsOpened live old → IsOpened live new
  opened_on live is = record { stable = root_on is.stable; root = subst (HasRoot live) (sym same) is.root }

  belongs_on : (store : Store) (warehouse : Warehouse) → Belongs store old warehouse → Belongs store new warehouse
  belongs_on store warehouse is = record {
    lawful = is.lawful;
    schema = is.schema;
    last = is.last;
    stored = holds_on (IsStoreOf store warehouse.facts) is.stored;
    opened = opened_on store.forest.body is.opened;
  }

  ready_on : (r : Begun) → IsReady r old → IsReady r new
  ready_on r is = record { opened = opened_on r.store.forest.body is.opened; shut = subst (λ (f : Files). IsShut (slot_of r.next) (f 0)) (sym same) is.shut; moved = subst (HasMoved r) (sym same) is.moved }

  attends_on : (r : Begun) (warehouse : Warehouse) (batch : List Fact) → Attends r old warehouse batch → Attends r new warehouse batch
  attends_on r warehouse batch it = (let is = it.attends in record {
    attends = record {
      lawful = is.lawful;
      schema = is.schema;
      last = is.last;
      next = is.next;
      counted = is.counted;
      adds = holds_on (IsRefreshOf r warehouse.facts batch) is.adds;
      ready = ready_on r is.ready;
      moved = subst (StandsAt r warehouse.facts batch) (sym same) is.moved;
    };
    some = it.some;
    format = it.format;
  })

  -- the files are still those that it has opened
  pub fit_on : (state : State) → IsFit state old → IsFit state new
  fit_on Empty is = record { stable = stable_on is.stable; nothing = subst KeepsNothing (sym same) is.nothing }
  fit_on (Idle store) is = opened_on store.forest.body is
  fit_on (Hollow store) is = opened_on store.forest.body is
  fit_on (Pending r) is = ready_on r is

  -- the session stands for the same world
  pub stands_on : (state : State) (world : World) → Stands state old world → Stands state new world
  stands_on Empty world is = (is.0, record { stable = stable_on is.1.stable; nothing = subst KeepsNothing (sym same) is.1.nothing })
  stands_on (Idle store) world is = (is.0, is.1, belongs_on store is.0 is.2)
  stands_on (Hollow store) world is = (is.0, is.1, belongs_on store is.0 is.2)
  stands_on (Pending r) world is = (is.0, is.1, is.2, attends_on r is.0 is.1 is.3)

-- an output leaves what a stop left, and so do calls that change nothing
pub emits_left : (reply : List ℕ) (old new : Disk) → Emits reply old new → (files : Files) → new.may_leave files → old.may_leave files
emits_left reply old new emits files left = let was = emits.time.now files left in subst old.may_leave (sym was.2) was.1

pub rests_left : (old new : Disk) → Rests old new → (files : Files) → new.may_leave files → old.may_leave files
rests_left old new rests files left = let was = rests.time.now files left in subst old.may_leave (sym was.2) was.1

-- ---- of a world that is as kept and as pending

knows_as : (kept : Kept) (pending : Option (List Fact)) (world next : World) → Knows world.kept world.pending next → Knows kept pending world → Knows kept pending next
knows_as kept pending world next same is = record { kept = same.kept ∙ is.kept; pending = same.pending ∙ is.pending }

pub stands_as : (state : State) (disk : Disk) (world next : World) → Knows world.kept world.pending next → Stands state disk world → Stands state disk next
stands_as Empty disk world next same is = (knows_as None None world next same is.0, is.1)
stands_as (Idle store) disk world next same is = (is.0, knows_as (Some is.0) None world next same is.1, is.2)
stands_as (Hollow store) disk world next same is = (is.0, knows_as (Some is.0) (Some []) world next same is.1, is.2)
stands_as (Pending r) disk world next same is = (is.0, is.1, knows_as (Some is.0) (Some is.1) world next same is.2, is.3)
