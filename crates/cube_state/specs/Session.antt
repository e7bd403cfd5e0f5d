-- A session that represents a world, and its replies by that world.
use Rattle.std.specs.Prelude.{◌≡◌, ◌⊎◌, ℕ, ◌+◌, ◌<◌, ◌≤◌, List, [], length, None, Some}
use Rattle.site_core.specs.Disk.{Files, Disk}
use Rattle.site_core.specs.Moments.{HoldsNow, LeavesOnly}
use Rattle.fact_model.specs.declared.fact.Fact.{Fact}
use Rattle.forest_root.specs.declared.forest.Store.{Store}
use Rattle.forest_refresh.specs.Begun.{Begun, IsGoing, IsReady, IsRefreshOf, StandsAt, batch_size}
use Rattle.spec_store.specs.Held.{format_for}
use Rattle.spec_store.specs.Opened.{IsEmpty, IsOpened}
use Rattle.spec_store.specs.Stored.{IsStoreOf, IsWhole}
use Rattle.reply_text.specs.Replies.{line, facts_text, pending_text, unopened}
use Rattle.spec_crash.specs.Keeps.{IsFrom, IsLawful, Keeps}
use Rattle.spec_machine.specs.Machine.{Answer}
use Rattle.spec_machine.specs.World.{Knows, Warehouse, World}
use Rattle.cube_state.specs.declared.state.State.{State}
use Rattle.cube_state.specs.declared.state.State.TheVariants.{Empty, Idle, Hollow, Pending}

-- the store is that of the warehouse in the files
pub record Belongs (store : Store) (disk : Disk) (warehouse : Warehouse) : Type 0 where
  pub lawful : IsLawful warehouse
  pub schema : store.forest.schema ≡ warehouse.schema
  pub last : store.forest.body.last ≡ warehouse.last
  -- as a read gives them, and as a stop now may leave them
  pub stored : HoldsNow (IsStoreOf store warehouse.facts) disk
  pub opened : IsOpened store.forest.body disk

-- the refresh adds a batch to the warehouse in the files, after which `number` is the last number
pub record AttendsAs (number : ℕ) (r : Begun) (disk : Disk) (warehouse : Warehouse) (batch : List Fact) : Type 0 where
  pub lawful : IsLawful warehouse
  pub schema : r.store.forest.schema ≡ warehouse.schema
  pub last : r.store.forest.body.last ≡ warehouse.last
  pub next : r.next.last ≡ number
  -- there are no more numbered batches than facts
  pub counted : number ≤ length warehouse.facts + length batch
  -- as a read gives them, and as a stop now may leave them
  pub adds : HoldsNow (IsRefreshOf r warehouse.facts batch) disk
  pub ready : IsReady r disk
  -- the pages of the moves made are on the new side
  pub moved : StandsAt r warehouse.facts batch disk.files

-- the batch has no number, and goes into pages of the format that its numbers need; an empty batch needs no refresh
pub record Attends (r : Begun) (disk : Disk) (warehouse : Warehouse) (batch : List Fact) : Type 0 where
  pub attends : AttendsAs warehouse.last r disk warehouse batch
  pub some : 0 < length batch
  pub format : r.next.format ≡ format_for r.store.forest.body.format batch

-- before a refresh begins, slices know all names; after that, its moves can continue
abbrev pub IsRunning : State → Type 0
IsRunning Empty = Unit {0}
IsRunning (Idle store) = IsWhole store
IsRunning (Hollow store) = IsWhole store
IsRunning (Pending refresh) = IsGoing refresh

-- for any content, the files are those that the session has opened
abbrev pub IsFit : State → Disk → Type 0
IsFit Empty disk = IsEmpty disk
IsFit (Idle store) disk = IsOpened store.forest.body disk
IsFit (Hollow store) disk = IsOpened store.forest.body disk
IsFit (Pending refresh) disk = IsReady refresh disk

-- the session represents this world
abbrev pub Stands : State → Disk → World → Type 0
Stands Empty disk world = Knows None None world × IsEmpty disk
Stands (Idle store) disk world = (warehouse : Warehouse) × Knows (Some warehouse) None world × Belongs store disk warehouse
Stands (Hollow store) disk world = (warehouse : Warehouse) × Knows (Some warehouse) (Some []) world × Belongs store disk warehouse
Stands (Pending refresh) disk world =
    (warehouse : Warehouse) × (batch : List Fact) × Knows (Some warehouse) (Some batch) world × Attends refresh disk warehouse batch

-- the reply to `status`
abbrev pub state_text : State → List ℕ
state_text Empty = line unopened
state_text (Idle store) = facts_text store.forest.body.facts
state_text (Hollow store) = pending_text store.forest.body.facts 0
state_text (Pending refresh) = pending_text refresh.store.forest.body.facts (batch_size refresh)

-- the files keep what the first world has accepted, or what the second has
abbrev pub KeepsEither : World → World → Files → Type 0
KeepsEither world next files = Keeps files world.kept ⊎ Keeps files next.kept

-- nothing is output from old to new, and a stop at any moment in between leaves files that keep what one of the two worlds has accepted, in no
-- earlier format than this
abbrev pub Between : ℕ → Disk → Disk → World → World → Type 0
Between format old new world next = LeavesOnly old new (λ told files. (told ≡ old.told) × KeepsEither world next files × IsFrom format files)

-- the session represents the world after a command, and the reply is the plain machine's
pub record IsAnswer (disk : Disk) (answer : Answer) (state : State) (reply : List ℕ) : Type 0 where
  pub stands : Stands state disk answer.0
  pub said : reply ≡ answer.1

-- the reply is this line
abbrev pub IsLine : List ℕ → List ℕ → Type 0
IsLine text reply = reply ≡ line text
