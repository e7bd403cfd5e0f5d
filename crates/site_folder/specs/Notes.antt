-- What a site notes of its files and their folder.
use Rattle.std.specs.Prelude.{◌≡◌, ℕ, ◌+◌, ◌<◌, ◌≤◌, List, Bool, false, IsTrue, slice_index_or}
use Rattle.site_folder.specs.Ledger.{Ledger}
use Rattle.site_folder.specs.declared.notes.Notes.{Notes}

-- this file is noted as synced
abbrev pub IsNoted : List Bool → ℕ → Type 0
IsNoted is_synced file = IsTrue (slice_index_or is_synced file false)

-- the first `count` files are noted as synced
abbrev pub AreNotedTo : ℕ → List Bool → Type 0
AreNotedTo count is_synced = (g : ℕ) → g < count → IsNoted is_synced g

-- each file that is noted as synced is synced
abbrev pub AreSynced : List Bool → Ledger → Type 0
AreSynced is_synced ledger = (g : ℕ) → IsNoted is_synced g → IsTrue (ledger.synced g)

-- what is noted holds, for the folder and for its files
pub record AreTrue (notes : Notes) (ledger : Ledger) : Type 0 where
  pub listed : IsTrue notes.is_listed → IsTrue ledger.listed
  pub synced : AreSynced notes.is_synced ledger

-- the folder and all four files are noted as synced
pub record AreAllNoted (notes : Notes) : Type 0 where
  pub listed : IsTrue notes.is_listed
  pub synced : AreNotedTo 4 notes.is_synced

-- Syncs are asked for only of files that are not noted, and of each at most once; what is open stays open, and what is synced stays synced.
pub record AsksDue (is_synced : List Bool) (old new : Ledger) : Type 0 where
  pub opened : (g : ℕ) → IsTrue (old.opened g) → IsTrue (new.opened g)
  pub synced : (g : ℕ) → IsTrue (old.synced g) → IsTrue (new.synced g)
  pub listed : IsTrue old.listed → IsTrue new.listed
  pub noted : (g : ℕ) → IsNoted is_synced g → new.asked g ≡ old.asked g
  pub once : (g : ℕ) → new.asked g ≤ old.asked g + 1
