-- Stops for damage at a place.
use Rattle.std.specs.Prelude.{◌≡◌}
use Rattle.site_core.specs.Disk.{Files}
use Rattle.forest_open.specs.Breaks.{BreaksAt}
use Rattle.forest_open.specs.Opening.{Place}
use Rattle.cube_state.specs.declared.stop.Stop.{Stop}
use Rattle.cube_state.specs.declared.stop.Stop.TheVariants as stops

-- damage at this place, unless a file failed or memory ran out
abbrev pub StopsAt : Place → Stop → Type 0
StopsAt place (stops.Damaged file offset) = place ≡ (file, offset)
StopsAt place stops.Disk = Unit {0}
StopsAt place stops.Memory = Unit {0}
StopsAt place stops.Output = ⊥

-- damage that is told is a place where the files break a rule of opening
abbrev pub TellsBreak : Files → Stop → Type 0
TellsBreak files (stops.Damaged file offset) = BreaksAt files (file, offset)
TellsBreak files stops.Disk = Unit {0}
TellsBreak files stops.Output = Unit {0}
TellsBreak files stops.Memory = Unit {0}
