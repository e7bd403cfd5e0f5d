-- The text of a slice.
use Rattle.std.specs.Prelude.{ℕ, List, [], ◌∷◌, ◌++◌, map, flat_map, codes, decimal, if◌then◌else◌}
use Rattle.std.specs.List.{join_with_byte}
use Rattle.fact_model.specs.declared.fact.Value.{Value}
use Rattle.fact_model.specs.declared.fact.Value.TheVariants.{Word, Number}
use Rattle.fact_model.specs.declared.slice.Column.{Column}
use Rattle.fact_model.specs.declared.slice.Column.TheVariants.{Count, Sum, Min, Max}
use Rattle.fact_model.specs.declared.slice.Cond.{Cond}
use Rattle.fact_model.specs.declared.slice.Cond.TheVariants.{Equal, Between}
use Rattle.fact_model.specs.declared.slice.Slice.{Slice}
use Rattle.cube_schema.specs.Kinds.{name_at, measure_name_at}
use Rattle.cube_schema.specs.declared.schema.Schema.{Schema}
use Rattle.slice_lang.specs.Parts.{is_quote}

-- the word of a column, with the measure in parentheses
abbrev pub over_text : List ℕ → List ℕ → List ℕ
over_text word name = word ++ (codes "(" ++ (name ++ codes ")"))

abbrev pub column_text : Schema → Column → List ℕ
column_text s Count = codes "count"
column_text s (Sum m) = over_text (codes "sum") (measure_name_at s m)
column_text s (Min m) = over_text (codes "min") (measure_name_at s m)
column_text s (Max m) = over_text (codes "max") (measure_name_at s m)

-- the columns with commas between
abbrev pub columns_text : Schema → List Column → List ℕ
columns_text s [] = []
columns_text s (column ∷ more) = column_text s column ++ flat_map (λ c. 44 ∷ column_text s c) more

-- the attributes' names with commas between, where there are any
abbrev pub by_text : Schema → List ℕ → List ℕ
by_text s [] = []
by_text s (attr ∷ more) = codes " by " ++ join_with_byte 44 (map (name_at s) (attr ∷ more))

-- a quote is doubled
abbrev pub doubled : ℕ → List ℕ
doubled byte = if is_quote byte then 34 ∷ 34 ∷ [] else byte ∷ []

-- a text in quotes, and a number in plain decimal
abbrev pub value_text : Value → List ℕ
value_text (Word text) = 34 ∷ (flat_map doubled text ++ (34 ∷ []))
value_text (Number n) = decimal n

abbrev pub cond_text : Schema → Cond → List ℕ
cond_text s (Equal attr value) = name_at s attr ++ (codes "=" ++ value_text value)
cond_text s (Between attr low high) = name_at s attr ++ (codes "=" ++ (decimal low ++ (codes ".." ++ decimal high)))

-- the conditions with `and` between, where there are any
abbrev pub where_text : List (List ℕ) → List ℕ
where_text [] = []
where_text (cond ∷ more) = codes " where " ++ (cond ++ flat_map (λ text. codes " and " ++ text) more)

-- the text of a slice
unfoldable pub slice_text : Schema → Slice → List ℕ
slice_text s q = columns_text s q.columns ++ (by_text s q.group ++ where_text (map (cond_text s) q.conds))
