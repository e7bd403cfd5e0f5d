-- A refresh has begun from a store, or the store is handed back.
use Rattle.std.specs.Prelude.{◌≡◌, ◌≢◌, ◌+◌, ◌%◌, List, Result, IsTrue, IfErr, IfOk, OnOk}
use Rattle.site_core.specs.Causes.{HasCause}
use Rattle.site_core.specs.Frames.{CallsOnly}
use Rattle.site_core.specs.Moments.{HoldsNow, IsStable}
use Rattle.site_core.specs.declared.site.Site.{Ghosts}
use Rattle.fact_model.specs.declared.fact.Fact.{Fact}
use Rattle.attr_dict.specs.Admitting.{names_with}
use Rattle.forest_commit.specs.Commit.{slot_of}
use Rattle.forest_root.specs.Root.{ClosesGate}
use Rattle.forest_root.specs.declared.forest.Store.{Store}
use Rattle.spec_store.specs.Held.{IsLive}
use Rattle.spec_store.specs.Stored.{IsStoreOf}
use Rattle.forest_refresh.specs.Back.{BeginCause, IsBack, IsCut}
use Rattle.forest_refresh.specs.Begun.{Begun, IsGoing, IsReady, IsRefreshOf}
use Rattle.forest_refresh.specs.Refreshed.{LeavesFacts}
use Rattle.forest_refresh.specs.Trees.{deltas_by}
use Rattle.forest_refresh.specs.declared.stop.BeginFault.{BeginFault}
use Rattle.forest_refresh.specs.declared.stop.BeginStop.TheVariants as stops

-- ---- the gate of the next generation is shut

-- the files keep these facts
pub record ShutsFor {S : Type 0} (T : Ghosts S) (refresh : Begun) (accepted : List Fact) (old new : S) (result : Result Begun BeginFault) : Type 0 where
  pub live : IsLive refresh.store.forest.schema refresh.store.forest.body accepted (T.disk old).files
      → OnOk result (IsLive refresh.store.forest.schema refresh.store.forest.body accepted (T.disk new).files)
  pub any_moment : HoldsNow (IsLive refresh.store.forest.schema refresh.store.forest.body accepted) (T.disk old) → LeavesFacts refresh.store accepted (T.disk old) (T.disk new)

-- the files hold what they may
pub record ShutsOver {S : Type 0} (T : Ghosts S) (refresh : Begun) (old new : S) (result : Result Begun BeginFault) : Type 0 where
  pub ready : OnOk result (IsReady refresh (T.disk new))
  pub stable : OnOk result (IsStable (T.disk new))
  pub closes : OnOk result (ClosesGate (slot_of refresh.next) (T.disk old).files (T.disk new).files)
  pub told : (T.disk new).told ≡ (T.disk old).told

-- this refresh has begun, or a file failed, and the store is handed back without the names that slices do not know
pub record ShutsGate {S : Type 0} (T : Ghosts S) (refresh : Begun) (old new : S) (result : Result Begun BeginFault) : Type 0 where
  pub by_facts : IsTrue T.tells → (accepted : List Fact) → ShutsFor T refresh accepted old new result
  pub any_files : IsTrue T.tells → ShutsOver T refresh old new result
  pub begun : IfOk result (λ x. x ≡ refresh)
  pub back : IfErr result (λ fault. IsCut refresh.store fault.store)
  pub why : IfErr result (λ fault. fault.why ≡ stops.Disk)
  pub calls : CallsOnly T HasCause 1 1 old new result

-- ---- a refresh begins

-- it has begun, with the points of a batch
pub record SetsOut {S : Type 0} (T : Ghosts S) (store : Store) (batch : List Fact) (old new : S) (refresh : Begun) : Type 0 where
  pub goes : IsGoing refresh
  pub none_made : refresh.progress.taken ≡ 0
  pub points : refresh.deltas ≡ deltas_by (names_with store.dicts batch) store.forest.schema batch
  pub forest : refresh.store.forest ≡ store.forest
  pub ready : IsTrue T.tells → IsReady refresh (T.disk new)
  pub stable : IsTrue T.tells → IsStable (T.disk new)
  -- of all files the gate of the next generation alone is written
  pub closes : IsTrue T.tells → ClosesGate ((store.forest.body.generation + 1) % 2) (T.disk old).files (T.disk new).files

-- it has not, and the store is handed back; where no file failed nothing was called
pub record HandsBack {S : Type 0} (store : Store) (old new : S) (fault : BeginFault) : Type 0 where
  pub back : IsBack store fault.store
  pub untouched : fault.why ≢ stops.Disk → new ≡ old

-- the files keep these facts
pub record BeginsFor {S : Type 0} (T : Ghosts S) (store : Store) (batch accepted : List Fact) (old new : S) (result : Result Begun BeginFault) : Type 0 where
  pub begun : IsStoreOf store accepted (T.disk old).files → IfOk result (λ refresh. IsRefreshOf refresh accepted batch (T.disk new).files)
  pub any_moment : HoldsNow (IsStoreOf store accepted) (T.disk old) → LeavesFacts store accepted (T.disk old) (T.disk new)

-- a refresh of this batch has begun from a store, or the store is handed back
pub record Begins {S : Type 0} (T : Ghosts S) (store : Store) (batch : List Fact) (old new : S) (result : Result Begun BeginFault) : Type 0 where
  pub by_facts : IsTrue T.tells → (accepted : List Fact) → BeginsFor T store batch accepted old new result
  pub fit : IfOk result (SetsOut T store batch old new)
  pub handed : IfErr result (HandsBack store old new)
  pub told : IsTrue T.tells → (T.disk new).told ≡ (T.disk old).told
  pub calls : CallsOnly T BeginCause 1 1 old new result
