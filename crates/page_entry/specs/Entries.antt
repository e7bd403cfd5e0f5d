-- What the bytes of a leaf say, and the rules of an entry.
use Rattle.std.specs.Prelude.{ℕ, pos, Bool, true, List, [], ◌∷◌, ◌++◌, ◌-◌, ◌*◌, ◌&&◌, not, nat_lt, take, drop, replicate, slice_index, ◌≤◌}
use Rattle.std.specs.List.{list_all}
use Rattle.be_numbers.specs.Numbers.{number, signed}
use Rattle.page_entry.specs.declared.size.TheConstants.{HEADER, COUNT, VALUE, PART, PAGE}
use Rattle.page_entry.specs.Bytes.{width, entry_size, zeros}
use Rattle.be_numbers.specs.Formats.{many}
use Rattle.std.specs.Int.Signed.{lt_z}
use Rattle.cube_point.specs.Points.{comes_before}
use Rattle.fact_model.specs.declared.cell.Part.{Part}
use Rattle.cube_point.specs.declared.point.Entry.{Entry}
use Rattle.cube_point.specs.declared.point.Point.{Point}
use Rattle.cube_point.specs.declared.point.Shape.{Shape}

-- a sum, a least and a greatest value
abbrev pub part_of : List ℕ → Part
part_of bytes = record { sum = signed bytes; low = signed (drop VALUE bytes); high = signed (drop VALUE (drop VALUE bytes)) }

-- the part behind those that are used
abbrev pub no_part : Part
no_part = record { sum = pos 0; low = pos 0; high = pos 0 }

-- the point in front of the bytes; unused coordinates are zero
abbrev pub point_of : Bool → ℕ → List ℕ → Point
point_of wide arity bytes = record { arity = arity; at = many (number (width wide)) (width wide) arity bytes ++ zeros (8 - arity) }

-- the entry in front of the bytes; unused parts are zero
abbrev pub entry_of : ℕ → Shape → List ℕ → Entry
entry_of arity shape bytes = record {
  point = point_of shape.wide arity bytes;
  cell = record {
    count = number COUNT (drop (arity * width shape.wide) bytes);
    measures = shape.measures;
    parts = many part_of PART shape.measures (drop COUNT (drop (arity * width shape.wide) bytes)) ++ replicate (4 - shape.measures) no_part;
  };
}

-- the second byte
abbrev pub page_arity : List ℕ → ℕ
page_arity bytes = slice_index bytes 1

-- the number in the third and the fourth byte
abbrev pub page_count : List ℕ → ℕ
page_count bytes = number 2 (drop 2 bytes)

-- the entries of a leaf
unfoldable pub entries : Shape → List ℕ → List Entry
entries shape bytes = many (entry_of (page_arity bytes) shape) (entry_size (page_arity bytes) shape) (page_count bytes) (drop HEADER bytes)

-- a page with room for as many entries as it says
pub record HasEntries (shape : Shape) (b : List ℕ) : Type 0 where
  pub arity : page_arity b ≤ 8
  pub measures : shape.measures ≤ 4
  pub fits : page_count b * entry_size (page_arity b) shape ≤ PAGE - HEADER

-- each but the last stands before the next
abbrev pub ascend : {A : Type 0} → (A → A → Bool) → List A → Bool
ascend less [] = true
ascend less (x ∷ []) = true
ascend less (x ∷ y ∷ xs) = less x y && ascend less (y ∷ xs)

-- each used coordinate is at least 1
abbrev pub are_positive : Point → Bool
are_positive p = list_all (λ n. nat_lt 0 n) (take p.arity p.at)

abbrev pub is_positive : Entry → Bool
is_positive e = are_positive e.point

-- the first entry's point comes before the second's
unfoldable pub entry_before : Entry → Entry → Bool
entry_before a b = comes_before a.point b.point

-- the least value is not above the greatest
abbrev pub is_part : Part → Bool
is_part p = not (lt_z p.high p.low)

-- there is a fact, and each used part is lawful
abbrev pub is_cell : Entry → Bool
is_cell e = nat_lt 0 e.cell.count && list_all is_part (take e.cell.measures e.cell.parts)
