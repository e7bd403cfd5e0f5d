-- Which entries their bytes give back, and which a leaf takes.
use Rattle.std.specs.Prelude.{◌≡◌, ◌<◌, ◌^◌, ◌-◌, ℕ, Bool, true, length, take, drop, replicate, slice_index}
use Rattle.std.proofs.Common.{SFits}
use Rattle.std.specs.Int.{w128}
use Rattle.be_numbers.specs.Formats.{AreMany}
use Rattle.page_entry.specs.declared.size.TheConstants.{COUNT}
use Rattle.page_entry.specs.Bytes.{width, zeros}
use Rattle.page_entry.specs.Entries.{no_part, is_cell}
use Rattle.fact_model.specs.declared.cell.Part.{Part}
use Rattle.cube_point.specs.declared.point.Entry.{Entry}
use Rattle.cube_point.specs.declared.point.Shape.{Shape}
use Rattle.cube_point.specs.Points.{IsPoint}

-- the sum, the least and the greatest value fit in 128 bits
pub record IsPart (p : Part) : Type 0 where
  pub sum : SFits w128 p.sum
  pub low : SFits w128 p.low
  pub high : SFits w128 p.high

-- within the bits of a coordinate: 32, or 64 of a wide tree
abbrev pub IsCoordinate : Bool → ℕ → Type 0
IsCoordinate wide n = n < 256 ^ width wide

-- an entry that its bytes give back
pub record IsStored (arity : ℕ) (shape : Shape) (e : Entry) : Type 0 where
  pub arity_is : e.point.arity ≡ arity
  pub used : AreMany (IsCoordinate shape.wide) arity (take arity e.point.at)
  pub unused : drop arity e.point.at ≡ zeros (8 - arity)
  pub count : e.cell.count < 256 ^ COUNT
  pub measures_is : e.cell.measures ≡ shape.measures
  pub parts : AreMany IsPart shape.measures (take shape.measures e.cell.parts)
  pub no_parts : drop shape.measures e.cell.parts ≡ replicate (4 - shape.measures) no_part

-- what a leaf asks of one entry by itself: a point with coordinates within their bits, and a lawful cell with a part for each measure
pub record FitsLeaf (shape : Shape) (e : Entry) : Type 0 where
  pub point : IsPoint e.point
  pub eight : length e.point.at ≡ 8
  pub narrow : (i : ℕ) → IsCoordinate shape.wide (slice_index e.point.at i)
  pub cell : is_cell e ≡ true
  pub count : e.cell.count < 256 ^ COUNT
  pub measures : e.cell.measures ≡ shape.measures
  pub parts : AreMany IsPart shape.measures (take shape.measures e.cell.parts)
  pub no_parts : drop shape.measures e.cell.parts ≡ replicate (4 - shape.measures) no_part
