-- Rows taken in one after another.
use Rattle.std.specs.Prelude.{◌≡◌, ◌≤◌, ℕ, ◌+◌, ℤ, List, [], ◌∷◌, length, map, sum_by}
use Rattle.std.specs.List.{All}
use Rattle.fact_model.specs.declared.slice.Column.{Column}
use Rattle.fact_model.specs.declared.slice.Row.{Row}
use Rattle.fact_model.specs.Distinct.{by_order}
use Rattle.fact_model.specs.Fact.{mass_limit}
use Rattle.fact_model.specs.Groups.{groups}
use Rattle.fact_model.specs.Value.{Key, key_cmp}
use Rattle.row_fold.specs.declared.lent.LentValue.{LentValue}
use Rattle.row_fold.specs.Folds.{all_joined}
use Rattle.row_fold.specs.Joins.{join_numbers, size_at}
use Rattle.row_fold.specs.Lent.{value_of}

-- the row of a borrowed key and these numbers
abbrev pub row_of : List LentValue → List ℤ → Row
row_of key numbers = record { key = map value_of key; numbers = numbers }

-- rows grouped by their keys, ascending, with the numbers of each group joined
abbrev pub by_key : List Column → List Row → List (Key × List ℤ)
by_key columns rows = groups key_cmp (λ (r : Row). r.key) (all_joined columns) rows

-- the magnitude of a group's number of a column
abbrev pub group_size : ℕ → Key × List ℤ → ℕ
group_size column group = size_at column group.1

-- there is a number for each column, in the groups too, and each column has room for one more number
pub record CanTake (columns : List Column) (taken : List (Key × List ℤ)) (numbers : List ℤ) : Type 0 where
  pub width : length numbers ≡ length columns
  pub wide : All (λ (group : Key × List ℤ). length group.1 ≡ length columns) taken
  pub fit : (column : ℕ) → sum_by (group_size column) taken + size_at column numbers ≤ mass_limit

-- AUXILIARY

-- one more row: joined to the group of its key, or a new group in order of the keys
abbrev pub put_in : List Column → Key → List ℤ → List (Key × List ℤ) → List (Key × List ℤ)
put_in columns key numbers [] = (key, numbers) ∷ []
put_in columns key numbers (g ∷ gs) =
    by_order (key_cmp key g.0) ((key, numbers) ∷ (g ∷ gs)) ((key, join_numbers columns numbers g.1) ∷ gs) (g ∷ put_in columns key numbers gs)
