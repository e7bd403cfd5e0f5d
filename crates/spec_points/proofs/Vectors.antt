-- A worked example: three facts of a part, a year and a quantity, and the points and answers of three views.
use Rattle.std.proofs.Common.{◌≡◌, ◌==◌, ℕ, ℤ, pos, negsuc, Bool, List, [], ◌∷◌, ◌++◌, replicate, refl}
use Rattle.fact_model.specs.declared.fact.Value.{Value}
use Rattle.fact_model.specs.declared.fact.Value.TheVariants.{Word, Number}
use Rattle.fact_model.specs.declared.fact.Fact.{Fact}
use Rattle.fact_model.specs.declared.cell.Cell.{Cell}
use Rattle.fact_model.specs.declared.slice.Cond.{Cond}
use Rattle.fact_model.specs.declared.slice.Cond.TheVariants.{Equal, Between}
use Rattle.fact_model.specs.declared.slice.Column.{Column}
use Rattle.fact_model.specs.declared.slice.Column.TheVariants.{Count, Sum, Min, Max}
use Rattle.fact_model.specs.declared.slice.Row.{Row}
use Rattle.fact_model.specs.Rows.{rows}
use Rattle.spec_points.specs.Codes.{Text, names, names_of}
use Rattle.spec_points.specs.Points.{View, padded, points, tree_by, tree_points}
use Rattle.spec_points.specs.Merge.{merge_points}
use Rattle.spec_points.specs.Answer.{nothing, codes_of, answer}
use Rattle.spec_points.specs.Weights.{size_at}
use Rattle.spec_points.specs.RollUp.{rolled_up}

-- ---- the facts

-- the text `bolt`
abbrev pub bolt : Text
bolt = 98 ∷ 111 ∷ 108 ∷ 116 ∷ []

-- the text `nut`
abbrev pub nut : Text
nut = 110 ∷ 117 ∷ 116 ∷ []

-- a fact with its part, year and quantity
abbrev pub fact : Text → ℕ → ℤ → Fact
fact part year quantity = record { values = Word part ∷ Number year ∷ []; measures = quantity ∷ [] }

-- two parts in two years
abbrev pub facts : List Fact
facts = fact bolt 1997 (pos 5) ∷ fact nut 1997 (negsuc 1) ∷ fact bolt 1998 (pos 4) ∷ []

-- further facts, the first of a new year and the second of an old point
abbrev pub batch : List Fact
batch = fact bolt 1999 (pos 1) ∷ fact nut 1997 (pos 7) ∷ []

-- the part is a text
abbrev pub text : ℕ → Bool
text a = a == 0

-- the view of no attribute
abbrev pub by_none : View
by_none = []

-- the view of the year
abbrev pub by_year : View
by_year = 1 ∷ []

-- the view of the part and the year
abbrev pub by_part_year : View
by_part_year = 0 ∷ 1 ∷ []

-- the views of the tree, by rising arity
abbrev pub views : List View
views = by_none ∷ by_year ∷ by_part_year ∷ []

-- ---- names and points

abbrev cell : ℕ → ℤ → ℤ → ℤ → Cell
cell count sum low high = record { count = count; measures = 1; parts = record { sum = sum; low = low; high = high } ∷ replicate 3 (record { sum = pos 0; low = pos 0; high = pos 0 }) }

-- the entries of the names file
pub the_names : names facts ≡ (0, bolt) ∷ (0, nut) ∷ []
the_names = refl

-- the last coordinate is compared first
pub points_by_part_year : points 1 by_part_year facts
    ≡ (1 ∷ 1998 ∷ 0 ∷ 0 ∷ 0 ∷ 0 ∷ 0 ∷ 0 ∷ [], cell 1 (pos 5) (pos 5) (pos 5))
    ∷ (2 ∷ 1998 ∷ 0 ∷ 0 ∷ 0 ∷ 0 ∷ 0 ∷ 0 ∷ [], cell 1 (negsuc 1) (negsuc 1) (negsuc 1))
    ∷ (1 ∷ 1999 ∷ 0 ∷ 0 ∷ 0 ∷ 0 ∷ 0 ∷ 0 ∷ [], cell 1 (pos 4) (pos 4) (pos 4)) ∷ []
points_by_part_year = refl

-- the facts of a year together
pub points_by_year : points 1 by_year facts ≡ (padded (1998 ∷ []), cell 2 (pos 3) (negsuc 1) (pos 5)) ∷ (padded (1999 ∷ []), cell 1 (pos 4) (pos 4) (pos 4)) ∷ []
points_by_year = refl

-- all facts together
pub points_by_none : points 1 by_none facts ≡ (padded [], cell 3 (pos 7) (negsuc 1) (pos 5)) ∷ []
points_by_none = refl

-- the magnitude of a negative sum
pub size_of_nut : size_at 0 (cell 1 (negsuc 1) (negsuc 1) (pos 5)) ≡ 2
size_of_nut = refl

-- no facts make no points, also in the view of no attribute
pub no_facts : points 1 by_none [] ≡ []
no_facts = refl

-- the merge of the old tree and the batch's points is the new tree
pub more_facts : merge_points (tree_points 1 views facts) (tree_by (names_of (facts ++ batch)) 1 views batch) ≡ tree_points 1 views (facts ++ batch)
more_facts = refl

-- the view of the year from the view of the part and the year
pub years_rolled_up : rolled_up by_part_year by_year (points 1 by_part_year facts) ≡ points 1 by_year facts
years_rolled_up = refl

-- ---- answers, from facts in which `nut` comes first, so that its code is less than that of `bolt`

abbrev turned : List Fact
turned = fact nut 1997 (negsuc 1) ∷ fact bolt 1997 (pos 5) ∷ fact bolt 1998 (pos 4) ∷ []

abbrev asked : List Column → List ℕ → List Cond → List Row
asked columns group conds = answer text (names_of turned) by_part_year (record { columns = columns; group = group; conds = conds }) (points 1 by_part_year turned)

abbrev row : List Value → List ℤ → Row
row key numbers = record { key = key; numbers = numbers }

-- texts ascend by their bytes, whatever their codes, and a column may stand twice
pub each_part : asked (Count ∷ Sum 0 ∷ Count ∷ []) (0 ∷ []) [] ≡ row (Word bolt ∷ []) (pos 2 ∷ pos 9 ∷ pos 2 ∷ []) ∷ row (Word nut ∷ []) (pos 1 ∷ negsuc 1 ∷ pos 1 ∷ []) ∷ []
each_part = refl

-- the least and the greatest of each year
pub each_year : asked (Min 0 ∷ Max 0 ∷ []) (1 ∷ []) [] ≡ row (Number 1997 ∷ []) (negsuc 1 ∷ pos 5 ∷ []) ∷ row (Number 1998 ∷ []) (pos 4 ∷ pos 4 ∷ []) ∷ []
each_year = refl

-- without grouped attributes there is one row
pub no_group : asked (Sum 0 ∷ []) [] (Between 1 1998 2000 ∷ []) ≡ row [] (pos 4 ∷ []) ∷ []
no_group = refl

-- no fact has the text
pub text_without_a_code : asked (Count ∷ []) [] (Equal 0 (Word []) ∷ []) ≡ []
text_without_a_code = refl

-- an empty range has the interval of no code
pub no_interval : codes_of [] (Between 1 1998 1997) ≡ nothing
no_interval = refl

-- no year is in the range
pub empty_range : asked (Count ∷ []) [] (Between 1 1998 1997 ∷ []) ≡ []
empty_range = refl

-- an attribute may be bound and grouped
pub bound_and_grouped : asked (Count ∷ []) (0 ∷ 1 ∷ []) (Equal 0 (Word bolt) ∷ Between 1 0 1997 ∷ []) ≡ row (Word bolt ∷ Number 1997 ∷ []) (pos 1 ∷ []) ∷ []
bound_and_grouped = refl

-- the rows of the facts themselves
pub plain_rows : rows turned (record { columns = Count ∷ Sum 0 ∷ []; group = 0 ∷ []; conds = [] }) ≡ row (Word bolt ∷ []) (pos 2 ∷ pos 9 ∷ []) ∷ row (Word nut ∷ []) (pos 1 ∷ negsuc 1 ∷ []) ∷ []
plain_rows = refl
