-- What a host of parts says of its files.
use Rattle.std.specs.Prelude.{◌≡◌, ℕ, ◌<◌, List, Bool, true, false, IsTrue, length, slice_index_or}
use Rattle.site_core.specs.Disk.{Disk, Files}
use Rattle.site_core.specs.Moments.{IsStable}
use Rattle.site_folder.specs.Ledger.{Ledger}

-- all files that are there are open, and listed; these are synced, no output is held back, and these syncs were asked for
abbrev pub flags_ledger : List Bool → List Bool → List ℕ → Ledger
flags_ledger is_there synced asked = record {
  opened = λ file. slice_index_or is_there file true;
  synced = λ file. slice_index_or synced file true;
  listed = true;
  flushed = true;
  asked = λ file. slice_index_or asked file 0;
}

-- where all four files are synced, a stop leaves what a read gives
abbrev pub AreHonest : List Bool → Disk → Type 0
AreHonest synced disk = ((g : ℕ) → g < 4 → IsTrue (slice_index_or synced g true)) → IsStable disk

-- a stop leaves no bytes of this file
abbrev pub IsAbsent : ℕ → Disk → Type 0
IsAbsent file disk = (files : Files) → disk.may_leave files → length (files file) ≡ 0

-- nor of any that is not there
abbrev pub AreAbsent : List Bool → Disk → Type 0
AreAbsent is_there disk = (g : ℕ) → slice_index_or is_there g true ≡ false → IsAbsent g disk

-- and what is not there is synced
abbrev pub HaveNothing : List Bool → List Bool → Type 0
HaveNothing is_there synced = (g : ℕ) → slice_index_or is_there g true ≡ false → IsTrue (slice_index_or synced g true)
