-- How a command may end, and why.
use Rattle.std.specs.Prelude.{◌≡◌, ℕ}
use Rattle.site_core.specs.Causes.{RoseOnce}
use Rattle.forest_open.specs.declared.stop.InitStop.{InitStop}
use Rattle.forest_open.specs.declared.stop.InitStop.TheVariants as inits
use Rattle.forest_open.specs.declared.stop.OpenStop.{OpenStop}
use Rattle.forest_open.specs.declared.stop.OpenStop.TheVariants as opens
use Rattle.forest_refresh.specs.declared.stop.RefreshStop.{RefreshStop}
use Rattle.forest_refresh.specs.declared.stop.RefreshStop.TheVariants as refreshes
use Rattle.cube_state.specs.declared.stop.Stop.{Stop}
use Rattle.cube_state.specs.declared.stop.Stop.TheVariants as stops

-- the counts of faults fit the stop: what it names failed once, and nothing else failed
abbrev pub StopCause : ℕ → ℕ → ℕ → ℕ → Stop → Type 0
StopCause disk disk_now output output_now stops.Disk = RoseOnce disk disk_now × (output_now ≡ output)
StopCause disk disk_now output output_now stops.Output = RoseOnce output output_now × (disk_now ≡ disk)
StopCause disk disk_now output output_now (stops.Damaged file offset) = (disk_now ≡ disk) × (output_now ≡ output)
StopCause disk disk_now output output_now stops.Memory = (disk_now ≡ disk) × (output_now ≡ output)

-- the stop reports no damage
abbrev pub IsNoDamage : Stop → Type 0
IsNoDamage stops.Disk = Unit {0}
IsNoDamage stops.Output = Unit {0}
IsNoDamage (stops.Damaged file offset) = ⊥
IsNoDamage stops.Memory = Unit {0}

-- the stops of lower calls, as stops of a session
abbrev pub open_stop : OpenStop → Stop
open_stop opens.Disk = stops.Disk
open_stop (opens.Damaged file offset) = stops.Damaged file offset
open_stop opens.Memory = stops.Memory

abbrev pub init_stop : InitStop → Stop
init_stop inits.Disk = stops.Disk
init_stop inits.Memory = stops.Memory

abbrev pub refresh_stop : RefreshStop → Stop
refresh_stop refreshes.Disk = stops.Disk
refresh_stop (refreshes.Damaged file offset) = stops.Damaged file offset
