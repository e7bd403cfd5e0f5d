-- Calls that only look, one after another.
use Rattle.std.proofs.Common.{Result, Ok, Err, inl, refl}
use Rattle.site_core.specs.Calls.{Rests, Settles, Stays}
use Rattle.site_core.specs.Disk.{Disk}
use Rattle.site_core.specs.declared.site.Site.{Ghosts}
use Rattle.site_core.proofs.Run.{Changes-settles, GoesOn-refl}
use Rattle.cube_state.specs.declared.stop.Stop.{Stop}
use Rattle.cube_state.specs.declared.stop.Stop.TheVariants as stops
use Rattle.cube_state.specs.Frames.{IsQuiet, OnlyLooks}

-- nothing was called
pub rests_here : (disk : Disk) → Rests disk disk
rests_here disk = record {
  files = refl;
  told = refl;
  time = record { clock = GoesOn-refl disk; now = λ files left. (files, left, refl); since = λ t told files le left. inl left };
}

pub settled_here : {A E : Type 0} (disk : Disk) (result : Result A E) → Settles Stays disk disk result
settled_here disk result = Changes-settles Stays disk disk result (rests_here disk)

pub quiet_here : {S A : Type 0} (T : Ghosts S) (site : S) {x : A} → IsQuiet T site site (Ok x)
quiet_here T site = record { told = λ t. refl; cause = tt; disk_faults = refl; told_faults = refl }

pub quiet_nowhere : {S A : Type 0} (T : Ghosts S) (site : S) → IsQuiet {A = A} T site site (Err stops.Memory)
quiet_nowhere T site = record { told = λ t. refl; cause = (refl, refl); disk_faults = tt; told_faults = refl }

-- quiet calls go on behind an answer, memory runs out behind it, or a stop is handed on
module _ {S A B : Type 0} {T : Ghosts S} {old new : S} where
  pub quiet_on : {x : A} {y : B} → IsQuiet T old new (Ok x) → IsQuiet T old new (Ok y)
  quiet_on is = record { told = is.told; cause = tt; disk_faults = is.disk_faults; told_faults = is.told_faults }

  pub quiet_out : {x : A} → IsQuiet T old new (Ok x) → IsQuiet {A = B} T old new (Err stops.Memory)
  quiet_out is = record { told = is.told; cause = (is.disk_faults, is.told_faults); disk_faults = tt; told_faults = is.told_faults }

  pub quiet_err : {stop : Stop} → IsQuiet {A = A} T old new (Err stop) → IsQuiet {A = B} T old new (Err stop)
  quiet_err is = record { told = is.told; cause = is.cause; disk_faults = tt; told_faults = is.told_faults }

  -- the same of calls that only look
  pub looks_on : {x : A} {y : B} → OnlyLooks T old new (Ok x) → OnlyLooks T old new (Ok y)
  looks_on is = record { quiet = record { told = is.quiet.told; cause = tt; disk_faults = is.quiet.disk_faults; told_faults = is.quiet.told_faults }; disk = is.disk; writes = is.writes }

  pub looks_out : {x : A} → OnlyLooks T old new (Ok x) → OnlyLooks {A = B} T old new (Err stops.Memory)
  looks_out is = record { quiet = record { told = is.quiet.told; cause = (is.quiet.disk_faults, is.quiet.told_faults); disk_faults = tt; told_faults = is.quiet.told_faults }; disk = is.disk; writes = is.writes }

  pub looks_err : {stop : Stop} → OnlyLooks {A = A} T old new (Err stop) → OnlyLooks {A = B} T old new (Err stop)
  looks_err is = record { quiet = record { told = is.quiet.told; cause = is.quiet.cause; disk_faults = tt; told_faults = is.quiet.told_faults }; disk = is.disk; writes = is.writes }

pub looks_here : {S A : Type 0} (T : Ghosts S) (site : S) {x : A} → OnlyLooks T site site (Ok x)
looks_here T site = record { quiet = quiet_here T site; disk = λ t. rests_here (T.disk site); writes = refl }

pub looks_nowhere : {S A : Type 0} (T : Ghosts S) (site : S) → OnlyLooks {A = A} T site site (Err stops.Memory)
looks_nowhere T site = record { quiet = quiet_nowhere T site; disk = λ t. rests_here (T.disk site); writes = refl }
