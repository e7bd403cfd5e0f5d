-- What one read of a file gives.
use Rattle.std.specs.Prelude.{◌≡◌, ℕ, ◌-◌, ◌≤◌, List, length, take, drop}

-- `count` of the bytes from this place on, and none only if the file has none there
pub record ReadsAt (file : List ℕ) (at count : ℕ) (into : List ℕ) : Type 0 where
  pub within : count ≤ length file - at
  pub bytes : take count into ≡ take count (drop at file)
  pub end : count ≡ 0 → length file ≤ at
