-- The cells that came at each point of the coarser view, added up exactly.
use Rattle.std.specs.Prelude.{◌≡◌, ◌≢◌, ◌≤◌, ◌<◌, ◌+◌, ◌*◌, ◌^◌, ◌+ℤ◌, ◌-ℤ◌, false, ℕ, ℤ, pos, List, [], ◌∷◌, Option, Some, None, cond, get_or, length, map}
use Rattle.std.specs.List.{All}
use Rattle.cube_point.specs.declared.point.Entry.{Entry}
use Rattle.cube_point.specs.Points.{point_cmp}
use Rattle.fact_model.specs.declared.cell.Cell.{Cell}
use Rattle.fact_model.specs.declared.cell.Part.{Part}
use Rattle.fact_model.specs.Cell.{join}
use Rattle.fact_model.specs.Groups.{is}
use Rattle.page_entry.specs.Entries.{no_part}
use Rattle.spec_points.specs.Entries.{pair_of}
use Rattle.spec_points.specs.Points.{PlacedCell}
use Rattle.audit_view.specs.declared.total.ExactPart.{ExactPart}
use Rattle.audit_view.specs.declared.total.Total.{Total}

-- the point with this number is at the place
pub record StandsAt (cs : List Entry) (place : List ℕ) (index : ℕ) : Type 0 where
  pub inside : index < length cs
  pub there : (d : Entry) → (get_or cs index d).point.at ≡ place

-- some point is at the place
pub record IsFound (cs : List Entry) (place : List ℕ) : Type 0 where
  pub index : ℕ
  pub stands : StandsAt cs place index

-- no point is at the place
abbrev pub IsNowhere : List Entry → List ℕ → Type 0
IsNowhere cs place = (i : ℕ) (d : Entry) → i < length cs → is point_cmp place (get_or cs i d).point.at ≡ false

-- the join of two cells, either of which may be missing
abbrev pub plus : Option Cell → Option Cell → Option Cell
plus None d = d
plus (Some c) None = Some c
plus (Some c) (Some d) = Some (join c d)

-- the join of the cells at a key, if there are any
abbrev pub held : (List ℕ → List ℕ) → List ℕ → List PlacedCell → Option Cell
held key k [] = None
held key k (e ∷ es) = plus (cond (is point_cmp k (key e.0)) (Some e.1) None) (held key k es)

-- the sum is `low` plus `ups` times 2 ^ 128, less `downs` times 2 ^ 128
unfoldable pub exact_sum : ExactPart → ℤ
exact_sum p = (p.low +ℤ pos (p.ups * 2 ^ 128)) -ℤ pos (p.downs * 2 ^ 128)

-- an exact part as a part, with its exact sum
abbrev pub part_in : ExactPart → Part
part_in p = record { sum = exact_sum p; low = p.least; high = p.greatest }

-- an exact part of zeros, the default past the four parts
abbrev pub zero_part : ExactPart
zero_part = record { low = pos 0; ups = 0; downs = 0; least = pos 0; greatest = pos 0 }

-- no more ups and downs than facts
abbrev pub IsSteady : Total → Type 0
IsSteady t = (m : ℕ) → m < 4 → (get_or t.parts m zero_part).ups + (get_or t.parts m zero_part).downs ≤ t.count

-- a part as an exact part, without ups and downs
abbrev pub exact_part : Part → ExactPart
exact_part p = record { low = p.sum; ups = 0; downs = 0; least = p.low; greatest = p.high }

-- the join of one cell
abbrev pub total_of : Cell → Total
total_of c = record { count = c.count; parts = map (λ m. exact_part (get_or c.parts m no_part)) (0 ∷ 1 ∷ 2 ∷ 3 ∷ []) }

-- at least one cell of `measures` measures came, and `c` is the join
pub record HoldsCell (measures : ℕ) (c : Cell) (t : Total) : Type 0 where
  pub count : t.count ≡ c.count
  pub some : 0 < t.count
  pub measured : c.measures ≡ measures
  pub four : length c.parts ≡ 4
  pub parts : (m : ℕ) → m < 4 → part_in (get_or t.parts m zero_part) ≡ get_or c.parts m no_part

-- the numbers of the total are those of the cell
pub record IsCell (t : Total) (c : Cell) : Type 0 where
  pub count : t.count ≡ c.count
  pub parts : (m : ℕ) → m < 4 → part_in (get_or t.parts m zero_part) ≡ get_or c.parts m no_part

-- the total is this join; `None` means that nothing came
abbrev pub HoldsSum : ℕ → Option Cell → Total → Type 0
HoldsSum measures None t = t.count ≡ 0
HoldsSum measures (Some c) t = HoldsCell measures c t

-- each total is what came at the place of its point of the coarser view
abbrev pub HoldsAll : (List ℕ → List ℕ) → ℕ → List Entry → List Entry → List Total → Type 0
HoldsAll key measures cs before totals = (i : ℕ) (c : Entry) (t : Total) → i < length cs → HoldsSum measures (held key (get_or cs i c).point.at (map pair_of before)) (get_or totals i t)

-- each of these points of the finer view has its point in the coarser one
abbrev pub AllFound : (List ℕ → List ℕ) → List Entry → List Entry → Type 0
AllFound key cs es = (n : ℕ) (d : Entry) → n < length es → IsFound cs (key (get_or es n d).point.at)

-- no sum has more ups and downs than facts
abbrev pub AllSteady : List Total → Type 0
AllSteady totals = All IsSteady totals

-- `count` totals of nothing
pub record AreNone (count : ℕ) (totals : List Total) : Type 0 where
  pub many : length totals ≡ count
  pub none : All (λ t. t.count ≡ 0) totals
  pub steady : AllSteady totals

-- the cell is joined to the total of the point at this place
pub record IsTakenIn (cs : List Entry) (place : List ℕ) (cell : Cell) (old new : List Total) (found : ℕ) : Type 0 where
  pub stands : StandsAt cs place found
  pub many : length new ≡ length old
  pub steady : AllSteady new
  pub same : (i : ℕ) (t : Total) → i ≢ found → get_or new i t ≡ get_or old i t
  pub joined : (measures : ℕ) (sum : Option Cell) (t : Total) → cell.measures ≡ measures → HoldsSum measures sum (get_or old found t) → HoldsSum measures (plus sum (Some cell)) (get_or new found t)

-- with this cell the count at this place passes 64 bits
pub record IsOver (cs : List Entry) (place : List ℕ) (cell : Cell) (totals : List Total) : Type 0 where
  pub index : ℕ
  pub stands : StandsAt cs place index
  pub over : (t : Total) → 2 ^ 64 ≤ (get_or totals index t).count + cell.count

-- the join at each point of the coarser view is its cell
abbrev pub AreCells : (ℕ → Option Cell) → List Entry → Type 0
AreCells sums cs = (i : ℕ) (c : Entry) → i < length cs → sums i ≡ Some (get_or cs i c).cell
