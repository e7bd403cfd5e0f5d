-- Rows in the order of their keys.
use Rattle.std.specs.Prelude.{ℕ, Bool, List, [], get_or, map}
use Rattle.std.specs.List.Sorted.{IsPermutation, IsSortedBy}
use Rattle.std.specs.Ordering.{is_lt}
use Rattle.fact_model.specs.declared.slice.Row.{Row}
use Rattle.fact_model.specs.Value.{key_cmp}

-- the row at a place; if there is none, a row without values and numbers
abbrev pub row_at : List Row → ℕ → Row
row_at rows at = get_or rows at (record { key = []; numbers = [] })

-- the rows at places
abbrev pub picked : List Row → List ℕ → List Row
picked rows places = map (row_at rows) places

-- the key at the first place comes before that at the second
abbrev pub comes_before : List Row → ℕ → ℕ → Bool
comes_before rows i j = is_lt (key_cmp (row_at rows i).key (row_at rows j).key)

-- these are the places of the rows, in the order of their keys
pub record IsOrderOf (rows : List Row) (order : List ℕ) : Type 0 where
  pub moved : IsPermutation rows (picked rows order)
  pub sorted : IsSortedBy (comes_before rows) order
