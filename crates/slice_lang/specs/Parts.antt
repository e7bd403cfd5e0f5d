-- The parts of a text: words between spaces, and items between commas.
use Rattle.std.specs.Prelude.{ℕ, ◌-◌, Bool, false, not, ◌&&◌, ◌==◌, List, [], ◌∷◌, length, if◌then◌else◌}
use Rattle.std.specs.Str.{bytes_eq}

pub record Part : Type 0 where
  -- the byte behind the part, where the first byte of the whole text is byte 1
  pub end : ℕ
  pub text : List ℕ

-- the byte at which the rest of a part begins, where the part ends before this byte
abbrev pub byte_of : ℕ → List ℕ → ℕ
byte_of end rest = end - length rest

-- the byte before a part
abbrev pub before : Part → ℕ
before part = byte_of part.end part.text - 1

abbrev pub space : ℕ
space = 32

abbrev pub comma : ℕ
comma = 44

abbrev pub is_quote : ℕ → Bool
is_quote byte = byte == 34

abbrev pub is_word : List ℕ → Part → Bool
is_word word part = bytes_eq part.text word

-- the byte is put in front of the first part
abbrev pub onto : ℕ → List Part → List Part
onto byte [] = []
onto byte (part ∷ more) = record { end = part.end; text = byte ∷ part.text } ∷ more

-- whether what follows a byte is within quotes
abbrev pub within : Bool → ℕ → Bool
within quoted byte = if is_quote byte then not quoted else quoted

-- whether a part ends at a byte
abbrev pub is_cut : ℕ → Bool → ℕ → Bool
is_cut separator quoted byte = byte == separator && not quoted

-- the parts between the separators that stand outside quotes; a doubled quote closes and opens them again
abbrev pub parts_from : ℕ → ℕ → Bool → List ℕ → List Part
parts_from separator end quoted [] = record { end = end; text = [] } ∷ []
parts_from separator end quoted (byte ∷ more) =
    if is_cut separator quoted byte then record { end = byte_of end (byte ∷ more); text = [] } ∷ parts_from separator end false more
    else onto byte (parts_from separator end (within quoted byte) more)

-- the parts of a text that ends before this byte; there is one at least
unfoldable pub parts_of : ℕ → ℕ → List ℕ → List Part
parts_of separator end text = parts_from separator end false text
