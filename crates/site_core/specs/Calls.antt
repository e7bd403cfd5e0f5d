-- What the calls of a site do.
use Rattle.std.specs.Prelude.{◌≡◌, ℕ, ◌-◌, min, List, ◌++◌, length, take, drop, Result, OnOk}
use Rattle.site_core.specs.Disk.{Files, Disk, Torn}
use Rattle.site_core.specs.Moments.{Elapses}

-- nothing is output
abbrev pub TellsNothing : List ℕ → List ℕ → Type 0
TellsNothing old new = new ≡ old

-- the first k of these bytes are output
abbrev pub TellsFront : List ℕ → List ℕ → List ℕ → Type 0
TellsFront bytes old new = (k : ℕ) × (new ≡ old ++ take k bytes)

-- the files are unchanged
abbrev pub Stays : Files → Files → Type 0
Stays old new = new ≡ old

-- A call, or a run of calls, that outputs nothing and changes files by this step: in what a read gives, in what a stop
-- now may leave, and in what a stop inside may leave.
pub record Changes (step : Files → Files → Type 0) (old new : Disk) : Type 0 where
  pub files : step old.files new.files
  pub told : new.told ≡ old.told
  pub time : Elapses TellsNothing step old new

-- nothing is changed
abbrev pub Rests : Disk → Disk → Type 0
Rests old new = Changes Stays old new

-- The same for calls that include a sync. If it fails, a read gives only what a stop may leave.
pub record Settles {A E : Type 0} (step : Files → Files → Type 0) (old new : Disk) (result : Result A E) : Type 0 where
  pub files : OnOk result (step old.files new.files)
  pub told : new.told ≡ old.told
  pub time : Elapses TellsNothing step old new

-- a write of these bytes, successful or not; a read, too, may give anything in the range
abbrev pub Writes : ℕ → ℕ → List ℕ → Disk → Disk → Type 0
Writes file at bytes old new = Changes (Torn file at (length bytes) (length (old.files file))) old new

-- as many bytes as there is room for, or as the file has from this place on
abbrev pub Fills : List ℕ → ℕ → ℕ → List ℕ → Type 0
Fills file at count into = (count ≡ min (length into) (length file - at)) × (take count into ≡ take count (drop at file))

-- an output, successful or not
pub record Emits (bytes : List ℕ) (old new : Disk) : Type 0 where
  pub some : TellsFront bytes old.told new.told
  pub files : new.files ≡ old.files
  pub time : Elapses (TellsFront bytes) Stays old new
