-- What becomes of the fields of a tape.
use Rattle.std.specs.Prelude.{◌≡◌, ℕ, List, ◌∷◌, Vec}
use Rattle.std.specs.declared.alloc.Global.{Global}
use Rattle.site_core.specs.Disk.{with_file, overwritten}
use Rattle.site_mem.specs.declared.step.Range.{Range}
use Rattle.site_mem.specs.declared.step.Step.{Step}
use Rattle.site_mem.specs.History.{files_of}

-- the range of a write of these bytes
abbrev pub IsRange : ℕ → ℕ → List ℕ → Range → Type 0
IsRange file at bytes r = (r.file ≡ file) × (r.at ≡ at) × (r.bytes ≡ bytes)

-- to steps, the newest first, one over such a range is added
abbrev pub Notes : (Range → Step) → ℕ → ℕ → List ℕ → List Step → List Step → Type 0
Notes step file at bytes old new = (r : Range) × IsRange file at bytes r × (new ≡ step r ∷ old)

-- and one over these bytes
abbrev pub NotesBytes : (List ℕ → Step) → List ℕ → List Step → List Step → Type 0
NotesBytes step bytes old new = new ≡ step bytes ∷ old

-- one of the files has these bytes over its old ones
abbrev pub IsFileWritten : ℕ → ℕ → List ℕ → List (Vec ℕ Global) → List (Vec ℕ Global) → Type 0
IsFileWritten file at bytes old new =
    files_of new ≡ with_file (files_of old) file (overwritten (files_of old file) at bytes)
