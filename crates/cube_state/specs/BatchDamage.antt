-- The damage that commands for batches report, and what they leave of damaged files.
use Rattle.std.specs.Prelude.{◌≡◌, ◌≢◌, ◌+◌, ◌%◌, ℕ, List, [], Ok, Err}
use Rattle.site_core.specs.Disk.{Files, with_file}
use Rattle.fact_model.specs.declared.fact.Fact.{Fact}
use Rattle.attr_dict.specs.Admitting.{names_with}
use Rattle.forest_root.specs.Root.{ClosesGate}
use Rattle.forest_root.specs.declared.body.Body.{Body}
use Rattle.forest_root.specs.declared.forest.Store.{Store}
use Rattle.forest_refresh.specs.Begun.{Begun, next_side}
use Rattle.forest_refresh.specs.Trees.{TellsFirstDamage, deltas_by}
use Rattle.forest_refresh.specs.declared.stop.RefreshStop.TheVariants as refreshes
use Rattle.spec_machine.specs.declared.batch_source.BatchSource.{BatchSource}
use Rattle.spec_machine.specs.Machine.{Given}
use Rattle.cube_state.specs.declared.state.State.{State}
use Rattle.cube_state.specs.declared.state.State.TheVariants.{Empty, Idle, Hollow, Pending}
use Rattle.cube_state.specs.declared.stop.Stop.{Stop}
use Rattle.cube_state.specs.declared.stop.Stop.TheVariants as stops
use Rattle.cube_state.specs.Batches.{given_to}
use Rattle.cube_state.specs.Stops.{IsNoDamage}

-- damage that a refresh reports is in the first damaged tree of these files
abbrev pub TellsRefreshDamage : Begun → Files → Stop → Type 0
TellsRefreshDamage r files (stops.Damaged file offset) = TellsFirstDamage r.store.forest files r.deltas (refreshes.Damaged file offset)
TellsRefreshDamage r files stops.Disk = Unit {0}
TellsRefreshDamage r files stops.Output = Unit {0}
TellsRefreshDamage r files stops.Memory = Unit {0}

-- the same when this batch is added; its points are made with the names that exist then
abbrev pub TellsBatchDamage : Store → Files → List Fact → Stop → Type 0
TellsBatchDamage kept files batch (stops.Damaged file offset) =
    TellsFirstDamage kept.forest files (deltas_by (names_with kept.dicts batch) kept.forest.schema batch) (refreshes.Damaged file offset)
TellsBatchDamage kept files batch stops.Disk = Unit {0}
TellsBatchDamage kept files batch stops.Output = Unit {0}
TellsBatchDamage kept files batch stops.Memory = Unit {0}

-- the same for what a source gives; if it gives no batch, no damage is reported
abbrev pub TellsGivenDamage : Store → Files → Given → Stop → Type 0
TellsGivenDamage kept files (Ok given) stop = TellsBatchDamage kept files given.0 stop
TellsGivenDamage kept files (Err text) stop = IsNoDamage stop

-- a load in a session with this state; without a schema, or while a batch is pending, no damage is reported
abbrev pub LoadTells : State → Files → BatchSource → Stop → Type 0
LoadTells Empty files source stop = IsNoDamage stop
LoadTells (Idle kept) files source stop = TellsGivenDamage kept files (given_to kept source) stop
LoadTells (Hollow kept) files source stop = IsNoDamage stop
LoadTells (Pending refresh) files source stop = IsNoDamage stop

-- a step, or the end, of a pending batch
abbrev pub FinishTells : State → Files → Stop → Type 0
FinishTells Empty files stop = IsNoDamage stop
FinishTells (Idle kept) files stop = IsNoDamage stop
FinishTells (Hollow kept) files stop = IsNoDamage stop
FinishTells (Pending refresh) files stop = TellsRefreshDamage refresh files stop

-- an upgrade, which goes through all trees as a batch without facts would
abbrev pub UpgradeTells : State → Files → Stop → Type 0
UpgradeTells Empty files stop = IsNoDamage stop
UpgradeTells (Idle kept) files stop = TellsBatchDamage kept files [] stop
UpgradeTells (Hollow kept) files stop = IsNoDamage stop
UpgradeTells (Pending refresh) files stop = IsNoDamage stop

-- ---- what damage leaves

-- the names and the live side are unchanged, and so is the root file, except the gate of the next generation
pub record IsSpared (live : Body) (old new : Files) : Type 0 where
  pub others : (file : ℕ) → file ≢ 0 → file ≢ next_side live → new file ≡ old file
  pub root : ClosesGate ((live.generation + 1) % 2) old (with_file old 0 (new 0))
