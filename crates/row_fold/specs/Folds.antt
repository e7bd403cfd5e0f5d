-- Rows folded: rows that agree in a part of the key are joined.
use Rattle.std.specs.Prelude.{◌≤◌, Bool, ◌&&◌, List, [], ◌∷◌, filter, length, ℤ}
use Rattle.fact_model.specs.declared.fact.Fact.{Fact}
use Rattle.fact_model.specs.declared.slice.Column.{Column}
use Rattle.fact_model.specs.declared.slice.Column.TheVariants.{Count, Sum, Min, Max}
use Rattle.fact_model.specs.declared.slice.Row.{Row}
use Rattle.fact_model.specs.declared.slice.Slice.{Slice}
use Rattle.fact_model.specs.Fact.{key_of, mass, mass_limit}
use Rattle.fact_model.specs.Groups.{groups}
use Rattle.fact_model.specs.Rows.{numbers_of}
use Rattle.fact_model.specs.Slice.{holds}
use Rattle.fact_model.specs.Value.{Key, key_cmp}
use Rattle.row_fold.specs.Joins.{join_numbers}

-- the numbers of all rows joined
abbrev pub all_joined : List Column → List Row → List ℤ
all_joined columns [] = []
all_joined columns (r ∷ []) = r.numbers
all_joined columns (r ∷ q ∷ rows) = join_numbers columns r.numbers (all_joined columns (q ∷ rows))

-- a part of the row's key, and its numbers
abbrev pub entry_of : (Key → Key) → Row → Key × List ℤ
entry_of part r = (part r.key, r.numbers)

-- the rows whose keys pass, grouped by a part of the key, ascending, with the numbers of each group joined
abbrev pub folded : List Column → (Key → Bool) → (Key → Key) → List Row → List (Key × List ℤ)
folded columns test part rows = groups key_cmp (λ (r : Row). part r.key) (all_joined columns) (filter (λ (r : Row). test r.key) rows)

-- the same for facts: those that meet the conditions and whose keys pass, grouped by the part, with the columns over each group
abbrev pub parted : Slice → (Key → Bool) → (Key → Key) → List Fact → List (Key × List ℤ)
parted s test part facts = groups key_cmp (λ x. part (key_of s.group x)) (numbers_of s.columns) (filter (λ x. holds s x && test (key_of s.group x)) facts)

-- the magnitudes that a column adds up over the facts fit in 128 bits in total
abbrev pub KeepsMass : List Fact → Column → Type 0
KeepsMass facts Count = length facts ≤ mass_limit
KeepsMass facts (Sum m) = mass m facts ≤ mass_limit
KeepsMass facts (Min m) = mass m facts ≤ mass_limit
KeepsMass facts (Max m) = mass m facts ≤ mass_limit
