-- Rows of one width in a flat list.
use Rattle.std.specs.Prelude.{ℕ, ◌*◌, List, map, take, drop}
use Rattle.std.specs.List.{range_with_len}

-- row `at`
abbrev pub row_at : {A : Type 0} → ℕ → List A → ℕ → List A
row_at width items at = take width (drop (width * at) items)

-- `rows` rows
abbrev pub rows_of : {A : Type 0} → ℕ → ℕ → List A → List (List A)
rows_of width rows items = map (row_at width items) (range_with_len 0 rows)
