-- The bytes of an entry.
use Rattle.std.specs.Prelude.{ℕ, Bool, if◌then◌else◌, List, ◌++◌, ◌+◌, ◌*◌, take, flat_map, replicate}
use Rattle.be_numbers.specs.Numbers.{coded, signed_coded}
use Rattle.fact_model.specs.declared.cell.Part.{Part}
use Rattle.cube_point.specs.declared.point.Entry.{Entry}
use Rattle.cube_point.specs.declared.point.Shape.{Shape}
use Rattle.page_entry.specs.declared.size.TheConstants.{NARROW, WIDE, COUNT, PART}

-- the bytes of a coordinate
unfoldable pub width : Bool → ℕ
width wide = if wide then WIDE else NARROW

-- a measure's sum, least and greatest value
abbrev pub part_bytes : Part → List ℕ
part_bytes p = signed_coded p.sum ++ (signed_coded p.low ++ signed_coded p.high)

-- the used coordinates, the count, and the measures
abbrev pub entry_bytes : ℕ → Shape → Entry → List ℕ
entry_bytes arity shape e = flat_map (coded (width shape.wide)) (take arity e.point.at) ++ (coded COUNT e.cell.count ++ flat_map part_bytes (take shape.measures e.cell.parts))

-- the bytes of a leaf's entry
abbrev pub entry_size : ℕ → Shape → ℕ
entry_size arity shape = arity * width shape.wide + (COUNT + shape.measures * PART)

-- so many zeros
abbrev pub zeros : ℕ → List ℕ
zeros n = replicate n 0
