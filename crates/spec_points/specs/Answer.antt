-- A slice answered from the points of a view.
use Rattle.std.specs.Prelude.{ℕ, suc, ◌-◌, ◌^◌, ◌==◌, ◌&&◌, Bool, true, false, cond, nat_le, List, [], ◌∷◌, ◌++◌, map, filter, length, replicate, get_or, unwrap_or, Option, Some, None, ℤ, pos}
use Rattle.fact_model.specs.declared.fact.Value.TheVariants.{Number}
use Rattle.fact_model.specs.declared.cell.Cell.{Cell}
use Rattle.fact_model.specs.declared.slice.Cond.{Cond}
use Rattle.fact_model.specs.declared.slice.Cond.TheVariants.{Equal, Between}
use Rattle.fact_model.specs.declared.slice.Column.{Column}
use Rattle.fact_model.specs.declared.slice.Column.TheVariants.{Count, Sum, Min, Max}
use Rattle.fact_model.specs.declared.slice.Slice.{Slice}
use Rattle.fact_model.specs.declared.slice.Row.{Row}
use Rattle.fact_model.specs.Value.{Key, key_cmp}
use Rattle.fact_model.specs.Cell.{part_of, join}
use Rattle.fact_model.specs.Groups.{groups}
use Rattle.fact_model.specs.Rows.{as_row}
use Rattle.fact_model.specs.Slice.{attr_of}
use Rattle.spec_points.specs.Codes.{Text, code_in, value_in}
use Rattle.spec_points.specs.Points.{View, PlacedCell, Names}

-- from the first to the second, both included
abbrev pub Interval : Type 0
Interval = ℕ × ℕ

-- the code is in the interval
abbrev pub within : Interval → ℕ → Bool
within i c = nat_le i.0 c && nat_le c i.1

-- the empty interval
abbrev pub nothing : Interval
nothing = (1, 0)

-- the greatest coordinate
abbrev pub top_coord : ℕ
top_coord = 2 ^ 64 - 1

-- the interval of one code; the empty one for none
abbrev pub just : Option ℕ → Interval
just None = nothing
just (Some c) = (c, c)

-- the codes that meet a condition
abbrev pub codes_of : List Text → Cond → Interval
codes_of names (Equal a v) = just (code_in names v)
codes_of names (Between a low high) = cond (nat_le low high) (suc low, suc high) nothing

-- the codes that meet the condition on an attribute; without one, all codes
abbrev pub interval : Names → List Cond → ℕ → Interval
interval names [] a = (1, top_coord)
interval names (c ∷ conds) a = cond (attr_of c == a) (codes_of (names a) c) (interval names conds a)

-- the region of conditions in a view: eight intervals; those past the view hold only zero
abbrev pub region : Names → List Cond → View → List Interval
region names conds view = map (interval names conds) view ++ replicate (8 - length view) (0, 0)

-- each coordinate is within its interval
abbrev pub inside : List Interval → List ℕ → Bool
inside [] [] = true
inside [] (c ∷ place) = false
inside (i ∷ intervals) [] = false
inside (i ∷ intervals) (c ∷ place) = within i c && inside intervals place

-- the coordinate of an attribute at a place of the view; 0 for an attribute that the view does not have
abbrev pub coordinate : View → List ℕ → ℕ → ℕ
coordinate [] place a = 0
coordinate (v ∷ view) [] a = 0
coordinate (v ∷ view) (c ∷ place) a = cond (v == a) c (coordinate view place a)

-- the values of the grouped attributes at a place; `text` says which attributes are texts
abbrev pub key_at : (ℕ → Bool) → Names → View → List ℕ → List ℕ → Key
key_at text names view group place = map (λ a. unwrap_or (value_in (text a) (names a) (coordinate view place a)) (Number 0)) group

-- the join of the cells of some points
abbrev pub joined : List PlacedCell → Cell
joined [] = record { count = 0; measures = 0; parts = [] }
joined (e ∷ []) = e.1
joined (e ∷ f ∷ entries) = join e.1 (joined (f ∷ entries))

-- a column of a cell
abbrev pub column_of : Cell → Column → ℤ
column_of c Count = pos c.count
column_of c (Sum m) = (get_or c.parts m (part_of [])).sum
column_of c (Min m) = (get_or c.parts m (part_of [])).low
column_of c (Max m) = (get_or c.parts m (part_of [])).high

-- the row of a key and a cell
abbrev pub row_from : List Column → (Key × Cell) → Row
row_from columns group = as_row (group.0, map (column_of group.1) columns)

-- the points inside the region, grouped by the values of the grouped attributes, with their cells joined: a row for each key, ascending
abbrev pub answer : (ℕ → Bool) → Names → View → Slice → List PlacedCell → List Row
answer text names view s entries =
    map (row_from s.columns) (groups key_cmp (λ e. key_at text names view s.group e.0) joined (filter (λ e. inside (region names s.conds view) e.0) entries))
