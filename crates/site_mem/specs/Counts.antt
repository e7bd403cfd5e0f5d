-- Counts in a `u64`, and what calls on a site count.
use Rattle.std.specs.Prelude.{◌≡◌, ℕ, ◌+◌, ◌-◌, ◌^◌, ◌≤◌, min, Result, OnErr}
use Rattle.site_core.specs.Causes.{HasCause}
use Rattle.site_mem.specs.declared.call.Call.{Call}
use Rattle.site_mem.specs.declared.call.Call.TheVariants.{Read, Write, Emit}

-- one more, or the same at the end of a `u64`
abbrev pub risen : ℕ → ℕ
risen count = min (count + 1) (2 ^ 64 - 1)

-- the four counts of a site
pub record Tally : Type 0 where
  pub disk_faults : ℕ
  pub told_faults : ℕ
  pub reads : ℕ
  pub writes : ℕ

-- the faults of what a call asks: the output where it emits, and else the files
abbrev pub faults_asked : Call → Tally → ℕ
faults_asked (Emit count) tally = tally.told_faults
faults_asked _ tally = tally.disk_faults

-- and those of the other
abbrev pub faults_unasked : Call → Tally → ℕ
faults_unasked (Emit count) tally = tally.disk_faults
faults_unasked _ tally = tally.told_faults

-- one is counted
pub record CountsOne (before now : ℕ) : Type 0 where
  pub later : before ≤ now
  pub one : now ≤ before + 1
  pub counted : now ≡ risen before

-- a read is counted, and nothing else is one
abbrev pub CountsReads : Call → ℕ → ℕ → Type 0
CountsReads (Read file at count) before now = CountsOne before now
CountsReads _ before now = now ≡ before

-- the same of a write
abbrev pub CountsWrites : Call → ℕ → ℕ → Type 0
CountsWrites (Write file at count) before now = CountsOne before now
CountsWrites _ before now = now ≡ before

-- What each call counts.
pub record Counts {T E : Type 0} (call : Call) (old new : Tally) (result : Result T E) : Type 0 where
  -- a fault, of what was asked
  pub cause : HasCause (faults_asked call old) (faults_asked call new) result
  pub fault : OnErr result (faults_asked call new ≡ risen (faults_asked call old))
  -- and none of the other
  pub others : faults_unasked call new ≡ faults_unasked call old
  -- each read and each write
  pub reads : CountsReads call old.reads new.reads
  pub writes : CountsWrites call old.writes new.writes
