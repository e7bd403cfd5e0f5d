-- Stops that tell no damage.
use Rattle.std.proofs.Common.{◌+◌, ◌%◌, ℕ, List, [], Option, Some, None, Ok, Err, refl, arith}
use Rattle.site_core.specs.Disk.{Files, with_file}
use Rattle.site_core.proofs.Files.{with_file-other}
use Rattle.fact_model.specs.declared.fact.Fact.{Fact}
use Rattle.fact_model.specs.declared.slice.Slice.{Slice}
use Rattle.forest_root.specs.Root.{ClosesGate}
use Rattle.forest_root.specs.declared.body.Body.{Body}
use Rattle.forest_root.specs.declared.forest.Store.{Store}
use Rattle.forest_refresh.specs.Begun.{Begun}
use Rattle.roll_up.specs.declared.level.Level.{Level}
use Rattle.script_lang.specs.declared.command.Command.{Command}
use Rattle.script_lang.specs.declared.command.Command.TheVariants as says
use Rattle.spec_machine.specs.declared.batch_source.BatchSource.{BatchSource}
use Rattle.spec_machine.specs.declared.batch_source.BatchSource.TheVariants.{Rows, Numbered, Generator}
use Rattle.spec_machine.specs.Machine.{Given, asked_by}
use Rattle.cube_state.specs.declared.state.State.{State}
use Rattle.cube_state.specs.declared.state.State.TheVariants.{Empty, Idle, Hollow, Pending}
use Rattle.cube_state.specs.declared.stop.Stop.{Stop}
use Rattle.cube_state.specs.declared.stop.Stop.TheVariants as stops
use Rattle.cube_state.specs.BatchDamage.{FinishTells, LoadTells, TellsBatchDamage, TellsGivenDamage, TellsRefreshDamage, UpgradeTells}
use Rattle.cube_state.specs.Batches.{given_to}
use Rattle.cube_state.specs.Carried.{Spares, SparesOf}
use Rattle.cube_state.specs.Commands.{TellsDamage}
use Rattle.cube_state.specs.Folds.{FoldTells, TellsFold}
use Rattle.cube_state.specs.Slices.{SliceTells, TellsSpoilt}
use Rattle.cube_state.specs.Stops.{IsNoDamage}
use Rattle.cube_state.specs.Visits.{store_of}

spoilt_none : (kept : Store) (files : Files) (asked : Option Slice) (stop : Stop) → IsNoDamage stop → TellsSpoilt kept files asked stop
spoilt_none kept files asked stops.Disk is = tt
spoilt_none kept files asked stops.Output is = tt
spoilt_none kept files asked (stops.Damaged file offset) is = absurd is
spoilt_none kept files asked stops.Memory is = tt

pub slice_none : (levels : List Level) (kept : Option Store) (files : Files) (command : Command) (stop : Stop) → IsNoDamage stop → SliceTells levels kept files command stop
slice_none levels None files command stop is = is
slice_none levels (Some kept) files command stop is = spoilt_none kept files (asked_by kept.forest.schema levels command) stop is

fold_spoilt_none : (kept : Store) (files : Files) (asked : Option Slice) (stop : Stop) → IsNoDamage stop → TellsFold kept files asked stop
fold_spoilt_none kept files asked stops.Disk is = tt
fold_spoilt_none kept files asked stops.Output is = tt
fold_spoilt_none kept files asked (stops.Damaged file offset) is = absurd is
fold_spoilt_none kept files asked stops.Memory is = tt

fold_none : (levels : List Level) (kept : Option Store) (files : Files) (command : Command) (stop : Stop) → IsNoDamage stop → FoldTells levels kept files command stop
fold_none levels None files command stop is = is
fold_none levels (Some kept) files command stop is = fold_spoilt_none kept files (asked_by kept.forest.schema levels command) stop is

pub batch_none : (kept : Store) (files : Files) (batch : List Fact) (stop : Stop) → IsNoDamage stop → TellsBatchDamage kept files batch stop
batch_none kept files batch stops.Disk is = tt
batch_none kept files batch stops.Output is = tt
batch_none kept files batch (stops.Damaged file offset) is = absurd is
batch_none kept files batch stops.Memory is = tt

refresh_none : (r : Begun) (files : Files) (stop : Stop) → IsNoDamage stop → TellsRefreshDamage r files stop
refresh_none r files stops.Disk is = tt
refresh_none r files stops.Output is = tt
refresh_none r files (stops.Damaged file offset) is = absurd is
refresh_none r files stops.Memory is = tt

given_none : (kept : Store) (files : Files) (given : Given) (stop : Stop) → IsNoDamage stop → TellsGivenDamage kept files given stop
given_none kept files (Ok given) stop is = batch_none kept files given.0 stop is
given_none kept files (Err text) stop is = is

pub load_none : (state : State) (files : Files) (source : BatchSource) (stop : Stop) → IsNoDamage stop → LoadTells state files source stop
load_none Empty files source stop is = is
load_none (Idle kept) files source stop is = given_none kept files (given_to kept source) stop is
load_none (Hollow kept) files source stop is = is
load_none (Pending r) files source stop is = is

pub finish_none : (state : State) (files : Files) (stop : Stop) → IsNoDamage stop → FinishTells state files stop
finish_none Empty files stop is = is
finish_none (Idle kept) files stop is = is
finish_none (Hollow kept) files stop is = is
finish_none (Pending r) files stop is = refresh_none r files stop is

upgrade_none : (state : State) (files : Files) (stop : Stop) → IsNoDamage stop → UpgradeTells state files stop
upgrade_none Empty files stop is = is
upgrade_none (Idle kept) files stop is = batch_none kept files [] stop is
upgrade_none (Hollow kept) files stop is = is
upgrade_none (Pending r) files stop is = is

-- a stop that is no damage tells none
pub tells_none : (levels : List Level) (state : State) (files : Files) (command : Command) (stop : Stop) → IsNoDamage stop → TellsDamage levels state files command stop
tells_none levels state files (says.Slice text) stop is = slice_none levels (store_of state) files (says.Slice text) stop is
tells_none levels state files (says.Load block) stop is = load_none state files (Rows block) stop is
tells_none levels state files (says.LoadNumbered number block) stop is = load_none state files (Numbered number block) stop is
tells_none levels state files (says.Generate start rows) stop is = load_none state files (Generator start rows) stop is
tells_none levels state files (says.Step n) stop is = finish_none state files stop is
tells_none levels state files says.Finish stop is = finish_none state files stop is
tells_none levels state files says.Upgrade stop is = upgrade_none state files stop is
tells_none levels state files (says.Schema block) stop is = is
tells_none levels state files (says.Explain text) stop is = is
tells_none levels state files (says.Sql text) stop is = fold_none levels (store_of state) files (says.Sql text) stop is
tells_none levels state files (says.Rollup text) stop is = fold_none levels (store_of state) files (says.Rollup text) stop is
tells_none levels state files (says.Level name attr block) stop is = is
tells_none levels state files says.Status stop is = is
tells_none levels state files says.Audit stop is = is
tells_none levels state files says.LongLine stop is = is
tells_none levels state files says.OpenBlock stop is = is
tells_none levels state files (says.Begin block) stop is = is
tells_none levels state files says.Abandon stop is = is
tells_none levels state files says.Unknown stop is = is

-- and it spares no less
pub spares_none : (live : Option Body) (old new : Files) (stop : Stop) → IsNoDamage stop → Spares live old new stop
spares_none live old new stops.Disk is = tt
spares_none live old new stops.Output is = tt
spares_none live old new (stops.Damaged file offset) is = absurd is
spares_none live old new stops.Memory is = tt

-- ---- files that are the same

closes_none : (slot : ℕ) (files : Files) → ClosesGate slot files (with_file files 0 (files 0))
closes_none slot files = record {
  range = record { others = λ file other. with_file-other files 0 (files 0) file other; no_shorter = omega arith; no_longer = omega arith; before = λ i there low. refl; after = λ i there high. refl };
  rule = λ shut. refl;
}

spares_none_of : (live : Option Body) (files : Files) → SparesOf live files files
spares_none_of None files = refl
spares_none_of (Some body) files = record { others = λ file other no_side. refl; root = closes_none ((body.generation + 1) % 2) files }

-- they spare all
pub spares_same : (live : Option Body) (files : Files) (stop : Stop) → Spares live files files stop
spares_same live files stops.Disk = tt
spares_same live files stops.Output = tt
spares_same live files (stops.Damaged file offset) = spares_none_of live files
spares_same live files stops.Memory = tt
