-- Which of four files are open, and what is synced.
use Rattle.std.specs.Prelude.{◌≡◌, ◌≢◌, ℕ, ◌+◌, ◌<◌, ◌≤◌, Bool, IsTrue}

pub record Ledger : Type 0 where
  -- the file with this number is open
  pub opened : ℕ → Bool
  -- all that was written to it is synced
  pub synced : ℕ → Bool
  -- the folder was synced since a file was made in it
  pub listed : Bool
  -- the output holds no bytes back
  pub flushed : Bool
  -- how often a sync of each file was asked for
  pub asked : ℕ → ℕ

-- what is open stays open, what is synced stays synced, and no sync of a file is asked for
pub record Keeps (old new : Ledger) : Type 0 where
  pub opened : (g : ℕ) → IsTrue (old.opened g) → IsTrue (new.opened g)
  pub synced : (g : ℕ) → IsTrue (old.synced g) → IsTrue (new.synced g)
  pub listed : IsTrue old.listed → IsTrue new.listed
  pub asked : new.asked ≡ old.asked

-- the same, except for the bytes of this file
pub record KeepsOthers (file : ℕ) (old new : Ledger) : Type 0 where
  pub opened : (g : ℕ) → IsTrue (old.opened g) → IsTrue (new.opened g)
  pub synced : (g : ℕ) → g ≢ file → IsTrue (old.synced g) → IsTrue (new.synced g)
  pub listed : IsTrue old.listed → IsTrue new.listed
  pub asked : new.asked ≡ old.asked

-- the same, except for the names in the folder
pub record KeepsFiles (old new : Ledger) : Type 0 where
  pub opened : (g : ℕ) → IsTrue (old.opened g) → IsTrue (new.opened g)
  pub synced : (g : ℕ) → IsTrue (old.synced g) → IsTrue (new.synced g)
  pub asked : new.asked ≡ old.asked

-- the same, except that a sync of this file is asked for at most once
pub record Asks (file : ℕ) (old new : Ledger) : Type 0 where
  pub opened : (g : ℕ) → IsTrue (old.opened g) → IsTrue (new.opened g)
  pub synced : (g : ℕ) → IsTrue (old.synced g) → IsTrue (new.synced g)
  pub listed : IsTrue old.listed → IsTrue new.listed
  pub others : (g : ℕ) → g ≢ file → new.asked g ≡ old.asked g
  pub once : new.asked file ≤ old.asked file + 1

-- the first `count` files are synced
abbrev pub AreSyncedTo : ℕ → Ledger → Type 0
AreSyncedTo count ledger = (g : ℕ) → g < count → IsTrue (ledger.synced g)

-- all four files are synced, and the folder that holds them
pub record IsAllSynced (ledger : Ledger) : Type 0 where
  pub files : AreSyncedTo 4 ledger
  pub listed : IsTrue ledger.listed
