-- The names in a text.
use Rattle.std.specs.Prelude.{ℕ, List, take, drop}
use Rattle.std.specs.List.{prefix_len}
use Rattle.cube_schema.specs.Words.{is_name_byte}

-- the name at the front of a text: its longest front of small letters, digits and `_`
abbrev pub name_in : List ℕ → List ℕ
name_in text = take (prefix_len is_name_byte text) text

-- what stands behind that name
abbrev pub behind_name : List ℕ → List ℕ
behind_name text = drop (prefix_len is_name_byte text) text

-- an attribute that is named, and what follows its name
pub record Named : Type 0 where
  pub attr : ℕ
  pub behind : List ℕ
