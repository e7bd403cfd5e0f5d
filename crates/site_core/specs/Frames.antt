-- What calls on files leave unchanged, apart from their effect. `has_cause` is `HasCause`, or `HasCauseWhere` with the error that is a fault.
use Rattle.std.specs.Prelude.{◌≡◌, ℕ, ◌+◌, ◌≤◌, IsTrue, Result}
use Rattle.site_core.specs.Calls.{Rests}
use Rattle.site_core.specs.declared.site.Site.{Ghosts}

-- calls that only read files: nothing is written, output or changed, successful or not; at most `most` reads
pub record LooksOnly {S A E : Type 0} (T : Ghosts S) (has_cause : ℕ → ℕ → Result A E → Type 0) (most : ℕ) (old new : S) (result : Result A E) : Type 0 where
  pub disk : IsTrue T.tells → Rests (T.disk old) (T.disk new)
  pub cause : has_cause (T.disk_faults old) (T.disk_faults new) result
  pub told_faults : T.told_faults new ≡ T.told_faults old
  pub reads : T.reads new ≤ T.reads old + most
  pub writes : T.writes new ≡ T.writes old

-- the same for calls whose reads are bounded elsewhere
pub record Looks {S A E : Type 0} (T : Ghosts S) (has_cause : ℕ → ℕ → Result A E → Type 0) (old new : S) (result : Result A E) : Type 0 where
  pub disk : IsTrue T.tells → Rests (T.disk old) (T.disk new)
  pub cause : has_cause (T.disk_faults old) (T.disk_faults new) result
  pub told_faults : T.told_faults new ≡ T.told_faults old
  pub writes : T.writes new ≡ T.writes old

-- calls that write: no call on the output, no reads, at most `most` writes
pub record WritesOnly {S A E : Type 0} (T : Ghosts S) (has_cause : ℕ → ℕ → Result A E → Type 0) (most : ℕ) (old new : S) (result : Result A E) : Type 0 where
  pub cause : has_cause (T.disk_faults old) (T.disk_faults new) result
  pub told_faults : T.told_faults new ≡ T.told_faults old
  pub reads : T.reads new ≡ T.reads old
  pub writes : T.writes new ≤ T.writes old + most

-- calls that read and write: no call on the output, at most `most_reads` reads and `most_writes` writes
pub record CallsOnly {S A E : Type 0} (T : Ghosts S) (has_cause : ℕ → ℕ → Result A E → Type 0) (most_reads most_writes : ℕ) (old new : S) (result : Result A E) : Type 0 where
  pub cause : has_cause (T.disk_faults old) (T.disk_faults new) result
  pub told_faults : T.told_faults new ≡ T.told_faults old
  pub reads : T.reads new ≤ T.reads old + most_reads
  pub writes : T.writes new ≤ T.writes old + most_writes

-- the same for calls whose writes are bounded elsewhere
pub record Calls {S A E : Type 0} (T : Ghosts S) (has_cause : ℕ → ℕ → Result A E → Type 0) (most_reads : ℕ) (old new : S) (result : Result A E) : Type 0 where
  pub cause : has_cause (T.disk_faults old) (T.disk_faults new) result
  pub told_faults : T.told_faults new ≡ T.told_faults old
  pub reads : T.reads new ≤ T.reads old + most_reads
