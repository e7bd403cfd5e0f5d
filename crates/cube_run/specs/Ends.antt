-- How a run may end, and why.
use Rattle.std.specs.Prelude.{◌≡◌, ℕ, Option, Some, None, IfSome, Result, Ok, Err}
use Rattle.site_core.specs.Causes.{RoseOnce}
use Rattle.site_core.specs.declared.site.Site.{Ghosts}
use Rattle.cube_args.specs.declared.words.WordsStop.{WordsStop}
use Rattle.cube_args.specs.declared.words.WordsStop.TheVariants as words
use Rattle.cube_state.specs.Stops.{IsNoDamage}
use Rattle.cube_state.specs.declared.stop.Stop.{Stop}
use Rattle.cube_state.specs.declared.stop.Stop.TheVariants as stops
use Rattle.cube_run.specs.declared.exit.Status.{Status}
use Rattle.cube_run.specs.declared.exit.Status.TheVariants.{Done, Usage, Input, Disk, Output, Damaged, Memory, TooLong}

-- the exit status of the process
abbrev pub code_of : Status → ℕ
code_of Done = 0
code_of Usage = 2
code_of Input = 3
code_of Disk = 4
code_of Output = 5
code_of (Damaged file offset) = 6
code_of Memory = 7
code_of TooLong = 8

-- the status of a run that ended so
abbrev pub ended : Result (Unit {0}) Status → Status
ended (Ok done) = Done
ended (Err status) = status

-- how often the source, the files and the output have failed
pub record Faults : Type 0 where
  pub source : ℕ
  pub disk : ℕ
  pub output : ℕ

abbrev pub faults : ℕ → ℕ → ℕ → Faults
faults source disk output = record { source = source; disk = disk; output = output }

-- nothing failed
abbrev pub Stayed : Faults → Faults → Type 0
Stayed before now = (now.source ≡ before.source) × (now.disk ≡ before.disk) × (now.output ≡ before.output)

-- why a run ends so: what the status names failed, with nothing asked of it behind that, and nothing else did
abbrev pub StatusCause : Faults → Faults → Status → Type 0
StatusCause before now Input = RoseOnce before.source now.source × (now.disk ≡ before.disk) × (now.output ≡ before.output)
StatusCause before now Disk = RoseOnce before.disk now.disk × (now.source ≡ before.source) × (now.output ≡ before.output)
StatusCause before now Output = RoseOnce before.output now.output × (now.source ≡ before.source) × (now.disk ≡ before.disk)
StatusCause before now Done = Stayed before now
StatusCause before now Usage = Stayed before now
StatusCause before now (Damaged file offset) = Stayed before now
StatusCause before now TooLong = Stayed before now
StatusCause before now Memory = Stayed before now

-- the stop of a session that ends a run so, if one does
abbrev pub stop_of : Status → Option Stop
stop_of Disk = Some stops.Disk
stop_of Output = Some stops.Output
stop_of (Damaged file offset) = Some (stops.Damaged file offset)
stop_of Memory = Some stops.Memory
stop_of _ = None

-- no damage is told
abbrev pub IsUndamaged : Status → Type 0
IsUndamaged status = IfSome (stop_of status) IsNoDamage

-- this comes only where the files were opened
abbrev pub IsPastOpening : Status → Type 0
IsPastOpening Done = Unit {0}
IsPastOpening Input = Unit {0}
IsPastOpening Output = Unit {0}
IsPastOpening TooLong = Unit {0}
IsPastOpening Usage = ⊥
IsPastOpening Disk = ⊥
IsPastOpening (Damaged file offset) = ⊥
IsPastOpening Memory = ⊥

-- the stop of the words, and that of a session, as the status of a run
abbrev pub words_status : WordsStop → Status
words_status words.Usage = Usage
words_status words.Memory = Memory

abbrev pub status_of : Stop → Status
status_of stops.Disk = Disk
status_of stops.Output = Output
status_of (stops.Damaged file offset) = Damaged file offset
status_of stops.Memory = Memory

-- the words were not taken, unless memory ran out
abbrev pub IsUsageOrMemory : Status → Type 0
IsUsageOrMemory Usage = Unit {0}
IsUsageOrMemory Memory = Unit {0}
IsUsageOrMemory _ = ⊥

-- the run was completed, unless memory ran out
abbrev pub IsDoneOrMemory : Status → Type 0
IsDoneOrMemory Done = Unit {0}
IsDoneOrMemory Memory = Unit {0}
IsDoneOrMemory _ = ⊥

-- The run ended so before the first pull. It told nothing and wrote nothing, and the files as read are as they were; behind a sync that failed a
-- read may give anything of what a stop may leave.
pub record EndsUnpulled {A B : Type 0} (T : Ghosts B) (End : Status → Type 0) (status : Status) (source source_now : A) (site site_now : B) : Type 0 where
  pub end : End status
  pub unpulled : source_now ≡ source
  pub untold : (T.disk site_now).told ≡ (T.disk site).told
  pub unwritten : T.writes site_now ≡ T.writes site
  pub unchanged : (status ≡ Disk → ⊥) → (T.disk site_now).files ≡ (T.disk site).files

-- the run ended so with no call on its source or its site
pub record EndsUntouched {A B : Type 0} (End : Type 0) (source source_now : A) (site site_now : B) : Type 0 where
  pub end : End
  pub unread : source_now ≡ source
  pub untouched : site_now ≡ site
