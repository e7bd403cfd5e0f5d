-- Rows sorted by their keys.
use Rattle.std.specs.Prelude.{◌≡◌, ◌-◌, ◌==◌, ◌||◌, ℕ, Bool, not, List, get_or, length, map}
use Rattle.std.specs.List.Sorted.{IsPermutation, IsSortedBy}
use Rattle.delta_agg.specs.Rows.{cuts_by}

-- the key at this position has another place than the key before it
abbrev pub key_begins : {K : Type 0} → (K → K → Bool) → K → List K → ℕ → Bool
key_begins same past keys at = (at == 0) || not (same (get_or keys (at - 1) past) (get_or keys at past))

-- the rows of the keys in ascending order, and the position where each place begins
pub record IsSortedOut {K : Type 0} (row : K → ℕ) (before same : K → K → Bool) (keys : List K) (order cuts : List ℕ) : Type 0 where
  pub sorted : List K
  pub moved : IsPermutation keys sorted
  pub up : IsSortedBy before sorted
  pub rows : order ≡ map row sorted
  pub cut : (past : K) → cuts ≡ cuts_by (key_begins same past sorted) (length sorted)
