-- Ends of a run for damage at a place.
use Rattle.std.specs.Prelude.{IfSome}
use Rattle.std.specs.Option.{IsSomeAnd}
use Rattle.site_core.specs.Disk.{Files}
use Rattle.forest_open.specs.Opening.{Place}
use Rattle.cube_session.specs.Damage.{StopsAt, TellsBreak}
use Rattle.cube_run.specs.Ends.{stop_of}
use Rattle.cube_run.specs.declared.exit.Status.{Status}

-- ends a run for damage at this place, unless a file failed or memory ran out
abbrev pub EndsAt : Place → Status → Type 0
EndsAt place status = IsSomeAnd (stop_of status) (StopsAt place)

-- damage that ends a run is a place where the files break a rule of opening
abbrev pub EndsForBreak : Files → Status → Type 0
EndsForBreak files status = IfSome (stop_of status) (TellsBreak files)
