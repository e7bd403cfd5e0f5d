-- The state of a session after an empty batch begins, and after the pending batch is discarded.
use Rattle.std.specs.Prelude.{◌≡◌, List}
use Rattle.site_core.specs.Disk.{Files}
use Rattle.fact_model.specs.declared.fact.Fact.{Fact}
use Rattle.forest_refresh.specs.Begun.{Begun, IsRefreshOf}
use Rattle.forest_root.specs.declared.forest.Store.{Store}
use Rattle.spec_store.specs.Stored.{IsStoreOf, IsWhole}
use Rattle.cube_state.specs.declared.state.State.{State}
use Rattle.cube_state.specs.declared.state.State.TheVariants.{Empty, Idle, Hollow, Pending}

-- an empty batch is pending if none was
abbrev pub hollow_of : State → State
hollow_of Empty = Empty
hollow_of (Idle store) = Hollow store
hollow_of (Hollow store) = Hollow store
hollow_of (Pending refresh) = Pending refresh

-- the store of a refresh, without its batch
pub record IsWithout (refresh : Begun) (store : Store) : Type 0 where
  pub stored : (accepted batch : List Fact) (files : Files) → IsRefreshOf refresh accepted batch files → IsStoreOf store accepted files
  pub forest : store.forest ≡ refresh.store.forest
  pub whole : IsWhole store

-- no batch is pending, and everything else is as before
abbrev pub IsDropped : State → State → Type 0
IsDropped Empty next = next ≡ Empty
IsDropped (Idle store) next = next ≡ Idle store
IsDropped (Hollow store) next = next ≡ Idle store
IsDropped (Pending refresh) next = (store : Store) × (next ≡ Idle store) × IsWithout refresh store
