-- A cell in its bytes.
use Rattle.std.specs.Prelude.{◌≡◌, ◌≤◌, ◌<◌, ◌+◌, ◌-◌, ◌++◌, ℕ, List, drop, get_or, replicate}
use Rattle.be_numbers.specs.Formats.{many}
use Rattle.be_numbers.specs.Numbers.{number}
use Rattle.fact_model.specs.declared.cell.Cell.{Cell}
use Rattle.fact_model.specs.Cell.{join_parts}
use Rattle.page_entry.specs.declared.size.TheConstants.{COUNT, PART}
use Rattle.page_entry.specs.Entries.{part_of, no_part}

-- the cell in front of the bytes; unused parts are zero
abbrev pub cell_of : ℕ → List ℕ → Cell
cell_of measures bytes = record {
  count = number COUNT bytes;
  measures = measures;
  parts = many part_of PART measures (drop COUNT bytes) ++ replicate (4 - measures) no_part;
}

-- the parts past the measures are zero
abbrev pub EndsInZeros : Cell → Type 0
EndsInZeros c = (m : ℕ) → c.measures ≤ m → m < 4 → get_or c.parts m no_part ≡ no_part

-- another cell of as many measures was joined to this one by its count and the parts of its measures; those past them stay
pub record IsJoined (old other new : Cell) : Type 0 where
  pub count : new.count ≡ old.count + other.count
  pub measures : new.measures ≡ old.measures
  pub parts : (m : ℕ) → m < old.measures → get_or new.parts m no_part ≡ join_parts (get_or old.parts m no_part) (get_or other.parts m no_part)
  pub past : (m : ℕ) → old.measures ≤ m → get_or new.parts m no_part ≡ get_or old.parts m no_part
