-- The statuses of stops.
use Rattle.std.proofs.Common.{◌≡◌, ℕ, Option, Some, None, IfSome, ap, refl}
use Rattle.cube_run.proofs.Names.{ByEnd, Faults, Files, IsDoneOrMemory, IsNoDamage, IsPastOpening, IsUndamaged, Rose, Status, StatusCause, Stop, StopCause, TellsBreak, faults, status_of, stop_of}
use Rattle.cube_state.specs.declared.stop.Stop.TheVariants as stops
use Rattle.cube_run.specs.declared.exit.Status.TheVariants.{Usage, Input, Disk, Output, Damaged, TooLong}

-- ---- stops of the session

-- what is known of the stop
pub of_stop : (P : Option Stop → Type 0) (stop : Stop) → P (Some stop) → P (stop_of (status_of stop))
of_stop P stops.Disk is = is
of_stop P stops.Output is = is
of_stop P (stops.Damaged file offset) is = is
of_stop P stops.Memory is = is

-- it ends no run in a way that is not its own
pub never : (stop : Stop) (status : Status) → stop_of status ≡ None → status_of stop ≡ status → ⊥
never stop status none is = cc (of_stop (λ (o : Option Stop). o ≡ Some stop) stop refl, ap stop_of is)

pub by_stop : (done too_long input : Type 0) (stop : Stop) → ByEnd done too_long input (status_of stop)
by_stop done too_long input stops.Disk = tt
by_stop done too_long input _ = tt

-- what it names failed, and nothing else did
pub stop_cause : (source source_now disk disk_now output output_now : ℕ) (stop : Stop) → source_now ≡ source → StopCause disk disk_now output output_now stop
    → StatusCause (faults source disk output) (faults source_now disk_now output_now) (status_of stop)
stop_cause source source_now disk disk_now output output_now stops.Disk same is = (is.0, same, is.1)
stop_cause source source_now disk disk_now output output_now stops.Output same is = (is.0, same, is.1)
stop_cause source source_now disk disk_now output output_now (stops.Damaged file offset) same is = (same, is.0, is.1)
stop_cause source source_now disk disk_now output output_now stops.Memory same is = (same, is.0, is.1)

-- opening fails before the first pull
pub still_closed : (stop : Stop) → (stop ≡ stops.Output → ⊥) → IsPastOpening (status_of stop) → ⊥
still_closed stops.Output other is = other refl
still_closed _ other is = is

-- ---- ends of a run

-- where no damage is told, none is told that is no broken rule
pub none_told : (files : Files) (stop : Option Stop) → IfSome stop IsNoDamage → IfSome stop (TellsBreak files)
none_told files (Some (stops.Damaged file offset)) is = absurd is
none_told files _ is = tt

-- a run is completed where nothing failed, no damage is told, the words are taken and the script keeps its limit
pub complete : (status : Status) (before now : Faults) → IsUndamaged status → StatusCause before now status → (status ≡ Usage → ⊥) → (status ≡ TooLong → ⊥)
    → ¬ (Rose before.source now.source) → ¬ (Rose before.disk now.disk) → ¬ (Rose before.output now.output) → IsDoneOrMemory status
complete Usage before now fine cause usage short source disk output = absurd (usage refl)
complete Input before now fine cause usage short source disk output = absurd (source cause.0.0)
complete Disk before now fine cause usage short source disk output = absurd (disk cause.0.0)
complete Output before now fine cause usage short source disk output = absurd (output cause.0.0)
complete (Damaged file offset) before now fine cause usage short source disk output = absurd fine
complete TooLong before now fine cause usage short source disk output = absurd (short refl)
complete _ before now fine cause usage short source disk output = tt
