-- Numbers of rows joined, by their columns.
use Rattle.std.specs.Prelude.{◌≡◌, ◌≤◌, ℕ, ◌+◌, ℤ, pos, ◌+ℤ◌, nat_abs, List, [], ◌∷◌, get_or, length}
use Rattle.std.specs.Int.{int_min, int_max}
use Rattle.fact_model.specs.declared.slice.Column.{Column}
use Rattle.fact_model.specs.declared.slice.Column.TheVariants.{Count, Sum, Min, Max}
use Rattle.fact_model.specs.Fact.{mass_limit}

-- counts and sums are added; of two least numbers the lesser is kept, and of two greatest the greater
abbrev pub join_number : Column → ℤ → ℤ → ℤ
join_number Count m n = m +ℤ n
join_number (Sum measure) m n = m +ℤ n
join_number (Min measure) m n = int_min m n
join_number (Max measure) m n = int_max m n

-- column by column
abbrev pub join_numbers : List Column → List ℤ → List ℤ → List ℤ
join_numbers [] ms ns = []
join_numbers (c ∷ columns) [] ns = []
join_numbers (c ∷ columns) (m ∷ ms) [] = []
join_numbers (c ∷ columns) (m ∷ ms) (n ∷ ns) = join_number c m n ∷ join_numbers columns ms ns

-- the magnitude of a column's number; 0 if there is none
abbrev pub size_at : ℕ → List ℤ → ℕ
size_at column numbers = nat_abs (get_or numbers column (pos 0))

-- both have a number for each column, and in each column the magnitudes add up within 128 bits
pub record CanJoin (columns : List Column) (ms ns : List ℤ) : Type 0 where
  pub first : length ms ≡ length columns
  pub second : length ns ≡ length columns
  pub fit : (column : ℕ) → size_at column ms + size_at column ns ≤ mass_limit
