-- The rows of a batch in the order of their places in a view, and the numbers by which they are sorted.
use Rattle.std.specs.Prelude.{◌≡◌, ◌<◌, ◌≤◌, ◌+◌, ◌-◌, ◌*◌, ◌/◌, ◌%◌, ◌^◌, ◌==◌, ◌||◌, ℕ, Bool, not, List, [], ◌∷◌, ◌++◌, filter, get_or, length, map, reverse, slice_index}
use Rattle.std.specs.List.{range_with_len}
use Rattle.std.specs.List.Sorted.{IsPermutation, IsSortedBy}
use Rattle.std.specs.Ordering.{is_lt, is_eq}
use Rattle.cube_point.specs.Points.{point_cmp}
use Rattle.spec_points.specs.Points.{View}
use Rattle.delta_agg.specs.declared.digits.Digit.{Digit}
use Rattle.delta_agg.specs.Batch.{place_at}

-- the place of a row in the view
abbrev pub row_place : View → List (List ℕ) → ℕ → List ℕ
row_place view coded row = place_at view (get_or coded row [])

-- the place of the first row comes before that of the second
abbrev pub row_before : View → List (List ℕ) → ℕ → ℕ → Bool
row_before view coded i j = is_lt (point_cmp (row_place view coded i) (row_place view coded j))

-- both rows have one place
abbrev pub same_place : View → List (List ℕ) → ℕ → ℕ → Bool
same_place view coded i j = is_eq (point_cmp (row_place view coded i) (row_place view coded j))

-- the row at this position in the order has another place than the row before it
abbrev pub begins : View → List (List ℕ) → List ℕ → ℕ → Bool
begins view coded order at = (at == 0) || not (same_place view coded (slice_index order (at - 1)) (slice_index order at))

-- the positions below an end where a test says that something begins, and then this end
abbrev pub cuts_by : (ℕ → Bool) → ℕ → List ℕ
cuts_by starts end = filter starts (range_with_len 0 end) ++ end ∷ []

-- all rows in the order of their places in the view, and the position where each place begins
pub record IsOrdered (view : View) (coded : List (List ℕ)) (order cuts : List ℕ) : Type 0 where
  pub moved : IsPermutation (range_with_len 0 (length coded)) order
  pub sorted : IsSortedBy (row_before view coded) order
  pub cut : cuts ≡ cuts_by (begins view coded order) (length order)

-- ---- places as numbers

-- no coordinate is above the top of its attribute
abbrev pub IsUnder : List ℕ → List ℕ → Type 0
IsUnder tops coordinates = (a : ℕ) → a < length tops → slice_index coordinates a ≤ slice_index tops a

-- the digit of an attribute
abbrev pub digit_of : List ℕ → ℕ → Digit
digit_of tops a = record { attr = a; top = slice_index tops a }

-- the number of coordinates that a digit can hold, from 0 on
abbrev pub span : Digit → ℕ
span d = d.top + 1

-- the digits of a view, the last attribute first
abbrev pub digits_of : List ℕ → View → List Digit
digits_of tops view = map (digit_of tops) (reverse view)

-- the number of values that the digits can hold
abbrev pub room : List Digit → ℕ
room [] = 1
room (d ∷ digits) = span d * room digits

-- a number with digits appended
abbrev pub number_from : ℕ → List Digit → List ℕ → ℕ
number_from number [] coordinates = number
number_from number (d ∷ digits) coordinates = number_from (number * span d + slice_index coordinates d.attr) digits coordinates

-- the coordinate is positive and below the span
abbrev pub HasDigit : List ℕ → Digit → Type 0
HasDigit coordinates d = (1 ≤ slice_index coordinates d.attr) × (slice_index coordinates d.attr < span d)

-- the number of a row's place, followed by the row
abbrev pub row_key : List Digit → List (List ℕ) → ℕ → ℕ
row_key digits coded row = number_from 0 digits (get_or coded row []) * 2 ^ 18 + row

-- the row of a key
abbrev pub row_in : ℕ → ℕ
row_in key = key % 2 ^ 18

-- the number of a key
abbrev pub number_in : ℕ → ℕ
number_in key = key / 2 ^ 18
