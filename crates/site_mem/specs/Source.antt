-- What is known of sources in memory.
use Rattle.std.specs.Prelude.{◌≡◌, ℕ, List, drop, length, min, Option, Some, None, Result, IsErr, OnOk, OnErr}
use Rattle.site_mem.specs.declared.source.MemorySource.{MemorySource}
use Rattle.site_mem.specs.Counts.{risen}

-- the bytes that it was made with
abbrev pub source_bytes : MemorySource → List ℕ
source_bytes source = source.bytes

-- the bytes that are left
abbrev pub source_left : MemorySource → List ℕ
source_left source = drop source.taken source.bytes

-- how often a pull has failed
abbrev pub source_faults : MemorySource → ℕ
source_faults source = source.faults

-- the most bytes that a pull gives
abbrev pub source_piece : MemorySource → ℕ
source_piece source = source.piece

-- the number of the next pull
abbrev pub source_number : MemorySource → ℕ
source_number source = source.next

-- how many pulls have met the end
abbrev pub source_ends : MemorySource → ℕ
source_ends source = source.ended

-- the number of the pull that is to fail, if there is one
abbrev pub source_fails : MemorySource → Option ℕ
source_fails source = source.fails

-- the next pull is to fail
abbrev pub IsPullNamed : MemorySource → Type 0
IsPullNamed source = source_fails source ≡ Some (source_number source)

-- What each pull keeps to, whatever it gives.
pub record IsPull {T E : Type 0} (old new : MemorySource) (result : Result T E) : Type 0 where
  -- it fails where it was asked to, and nowhere else, and that counts as one fault
  pub named : IsPullNamed old → IsErr result
  pub unnamed : OnErr result (IsPullNamed old)
  pub fault : OnErr result (source_faults new ≡ risen (source_faults old))
  -- once, and until then the number stays
  pub once : OnErr result (source_fails new ≡ None)
  pub fails : OnOk result (source_fails new ≡ source_fails old)
  -- the next pull has the next number
  pub number : source_number new ≡ risen (source_number old)
  -- the bytes stay, and how many of them a pull gives
  pub bytes : source_bytes new ≡ source_bytes old
  pub piece : source_piece new ≡ source_piece old

-- as many bytes as the piece, the room and the bytes that are left allow
abbrev pub pulled : ℕ → ℕ → List ℕ → ℕ
pulled piece room left = min piece (min room (length left))
