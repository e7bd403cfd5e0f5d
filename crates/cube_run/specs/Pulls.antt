-- What pulls give of a script.
use Rattle.std.specs.Prelude.{◌≡◌, ◌≤◌, ◌↔◌, ℕ, ◌+◌, IsTrue, List, length, Result, IfErr, IfOk, OnErr}
use Rattle.site_core.specs.Causes.{HasCause}
use Rattle.site_core.specs.Pull.{Gives, MeetsEnd}
use Rattle.site_core.specs.declared.source.Source.{Ghosts}
use Rattle.cube_run.specs.declared.exit.Status.{Status}
use Rattle.cube_run.specs.declared.exit.Status.TheVariants.{Input, TooLong}

-- so many bytes were given
abbrev pub Gave : List ℕ → List ℕ → ℕ → Type 0
Gave before after count = length before ≡ count + length after

-- at most so many bytes were given
abbrev pub GaveAtMost : List ℕ → List ℕ → ℕ → Type 0
GaveAtMost before after count = length before ≤ count + length after

-- `TooLong` is the end of a run exactly where one byte past the limit was given, and no more are
pub record KeepsLimit (IsEnd : Status → Type 0) (limit : ℕ) (script left : List ℕ) : Type 0 where
  pub too_long : IsEnd TooLong ↔ Gave script left (limit + 1)
  pub bounded : GaveAtMost script left (limit + 1)

-- a pull into a buffer gave so many bytes, and none only at the end of the script; one that failed took nothing
pub record PullsInto {A : Type 0} (S : Ghosts A) (old new : A) (buffer into : List ℕ) (result : Result ℕ Status) : Type 0 where
  pub bytes : IsTrue S.tells → IfOk result (λ count. Gives (S.left old) (S.left new) count into)
  pub bound : IfOk result (λ count. count ≤ length into)
  pub room : length into ≡ length buffer
  pub failed : IsTrue S.tells → OnErr result (S.left new ≡ S.left old)
  pub input : IfErr result (λ status. status ≡ Input)
  pub cause : HasCause (S.faults old) (S.faults new) result
  pub end : MeetsEnd (S.ends old) (S.ends new) result
