-- The rows of a slice from the points of a view, whatever points these are.
use Rattle.std.specs.Prelude.{◌≡◌, ◌<◌, ◌+◌, ◌↔◌, ℕ, Bool, true, false, IsTrue, List, [], ◌∷◌, map, filter, get_or, length, is_some, unwrap_or}
use Rattle.std.specs.List.{All, list_all}
use Rattle.std.specs.List.Sorted.{IsPermutation, IsSortedBy, IsStableBy}
use Rattle.std.specs.Ordering.{is_eq, is_lt}
use Rattle.fact_model.specs.declared.cell.Cell.{Cell}
use Rattle.fact_model.specs.declared.fact.Fact.{Fact}
use Rattle.fact_model.specs.declared.fact.Value.{Value}
use Rattle.fact_model.specs.declared.fact.Value.TheVariants.{Number}
use Rattle.fact_model.specs.declared.slice.Row.{Row}
use Rattle.fact_model.specs.declared.slice.Slice.{Slice}
use Rattle.fact_model.specs.Cell.{join}
use Rattle.fact_model.specs.Groups.{groups, having}
use Rattle.fact_model.specs.Value.{Key, key_cmp}
use Rattle.cube_point.specs.declared.point.Entry.{Entry}
use Rattle.spec_points.specs.Agree.{AgreesSlice, Covers, IsCoded, is_text}
use Rattle.spec_points.specs.Answer.{coordinate, inside, joined, region, row_from}
use Rattle.spec_points.specs.Entries.{entry_of, pair_of}
use Rattle.spec_points.specs.Points.{PlacedCell, View, points_by}
use Rattle.attr_dict.specs.Admitting.{Agrees}
use Rattle.attr_dict.specs.Book.{Book, names_at, value_of}
use Rattle.view_region.specs.Regions.{is_word}
use Rattle.point_groups.specs.Bare.{nowhere}
use Rattle.point_groups.specs.Joins.{Joins}
use Rattle.slice_rows.specs.declared.key_order.Order.{Order}

-- the value that a coordinate of the attribute stands for; the number 0 where there is none
abbrev pub value_at_code : Book → ℕ → ℕ → Value
value_at_code b a code = unwrap_or (value_of b a code) (Number 0)

module _ (b : Book) (view : View) (group : List ℕ) where
  -- the values of the grouped attributes at a place
  abbrev pub group_key : List ℕ → Key
  group_key place = map (λ a. value_at_code b a (coordinate view place a)) group

  -- the same of a point
  abbrev pub key_of_entry : Entry → Key
  key_of_entry e = group_key e.point.at

  -- a point by its key
  abbrev pub keyed : Entry → Key × Cell
  keyed e = (key_of_entry e, e.cell)

  -- the coordinate of each grouped attribute stands for a value
  abbrev pub has_values : Entry → Bool
  has_values e = list_all (λ a. is_some (value_of b a (coordinate view e.point.at a))) group

  -- the cells of the points of a key, in their order
  abbrev pub cells_of : Key → List Entry → List Cell
  cells_of k es = map (λ (e : Entry). e.cell) (having key_cmp key_of_entry k es)

  -- an entry for each key, ascending: the key, and the joined cell of its points
  abbrev pub by_key : List Entry → List (Key × Cell)
  by_key es = groups key_cmp (λ (e : PlacedCell). group_key e.0) joined (map pair_of es)

  -- the key of the first point comes before that of the second
  abbrev pub is_before : Entry → Entry → Bool
  is_before d e = is_lt (key_cmp (key_of_entry d) (key_of_entry e))

-- each cell joins with the join of those before it
abbrev pub AllJoinTo : Cell → List Cell → Type 0
AllJoinTo c [] = Unit {0}
AllJoinTo c (d ∷ cells) = Joins c d × AllJoinTo (join c d) cells

abbrev pub AllJoin : List Cell → Type 0
AllJoin [] = Unit {0}
AllJoin (c ∷ cells) = AllJoinTo c cells

-- each grouped coordinate stands for a value, and the cells of each key join
pub record AreSound (b : Book) (view : View) (group : List ℕ) (es : List Entry) : Type 0 where
  pub values : list_all (has_values b view group) es ≡ true
  pub cells : (k : Key) → AllJoin (cells_of b view group k es)

-- ---- on the way there

-- the points of these numbers
abbrev pub picked : List Entry → List ℕ → List Entry
picked es numbers = map (λ n. get_or es n nowhere) numbers

-- each of the numbers is that of a point
abbrev pub AreNumbers : List Entry → List ℕ → Type 0
AreNumbers es numbers = All (λ n. n < length es) numbers

-- the key of each point comes before that of the next
abbrev pub KeysAscend : Book → View → List ℕ → List Entry → Type 0
KeysAscend b view group es = (k : ℕ) (d : Entry) → k + 1 < length es → is_before b view group (get_or es k d) (get_or es (k + 1) d) ≡ true

-- the order of points by their keys, where those of one key stay in their order
pub record IsOrderOf (b : Book) (view : View) (group : List ℕ) (es : List Entry) (order : Order) : Type 0 where
  -- each number is that of a point
  pub numbers : AreNumbers es order.numbers.items
  -- all points are there
  pub moved : IsPermutation es (picked es order.numbers.items)
  -- none comes before one that stands in front of it
  pub sorted : IsSortedBy (is_before b view group) (picked es order.numbers.items)
  -- those of one key stand as they did
  pub stable : IsStableBy (is_before b view group) es (picked es order.numbers.items)
  -- it tells whether no two have one key
  pub strict : IsTrue order.is_strict ↔ KeysAscend b view group (picked es order.numbers.items)

-- where neighbours have one key, each cell joins with the join of those before it
abbrev pub NeighboursJoinTo : Key × Cell → List (Key × Cell) → Type 0
NeighboursJoinTo e [] = Unit {0}
NeighboursJoinTo e (d ∷ ds) =
    (is_eq (key_cmp e.0 d.0) ≡ true → Joins e.1 d.1 × NeighboursJoinTo (e.0, join e.1 d.1) ds) × (is_eq (key_cmp e.0 d.0) ≡ false → NeighboursJoinTo d ds)

abbrev pub NeighboursJoin : List (Key × Cell) → Type 0
NeighboursJoin [] = Unit {0}
NeighboursJoin (e ∷ es) = NeighboursJoinTo e es

-- ----

-- a row for each key, ascending, with the columns of the joined cell
abbrev pub rows_from : Book → View → Slice → List Entry → List Row
rows_from b view s es = map (row_from s.columns) (by_key b view s.group es)

-- the row has a value of the right kind for each grouped attribute, and a number for each column
pub record HasForm (b : Book) (s : Slice) (row : Row) : Type 0 where
  pub kinds : map is_text row.key ≡ map (is_word b) s.group
  pub numbers : length row.numbers ≡ length s.columns

-- ---- points of facts

-- the points of facts in the view that lie inside the region of the slice, by these names
abbrev pub points_inside : Book → ℕ → View → Slice → List Fact → List Entry
points_inside b measures view s facts =
    map entry_of (filter (λ (e : PlacedCell). inside (region (names_at b) s.conds view) e.0) (points_by (names_at b) measures view facts))

-- the slice and the facts agree with the kinds, the names know all values of the facts, and the view covers the slice
pub record Answers (b : Book) (view : View) (s : Slice) (facts : List Fact) : Type 0 where
  pub slice : AgreesSlice (is_word b) s
  pub covers : Covers view s
  pub agree : All (Agrees b.kinds) facts
  pub known : All (IsCoded (names_at b)) facts
