-- The texts that say a slice.
use Rattle.std.specs.Prelude.{◌≡◌, ℕ, Bool, ◌&&◌, ◌⊎◌, List, ◌++◌, length, nat_lt, codes, Some, pos, IsTrue}
use Rattle.std.specs.List.{list_all, AllZip}
use Rattle.fact_model.specs.Number.{number_in}
use Rattle.fact_model.specs.declared.fact.Value.TheVariants.{Word, Number}
use Rattle.fact_model.specs.declared.slice.Cond.{Cond}
use Rattle.fact_model.specs.declared.slice.Cond.TheVariants.{Equal, Between}
use Rattle.fact_model.specs.declared.slice.Slice.{Slice}
use Rattle.fact_model.specs.Slice.{attr_of}
use Rattle.cube_schema.specs.Kinds.{name_at}
use Rattle.cube_schema.specs.declared.schema.Schema.{Schema}
use Rattle.slice_lang.specs.Values.{is_value_byte}
use Rattle.slice_lang.specs.Writing.{value_text, columns_text, by_text, where_text}

-- letters, digits, `_`, `.`, `-` and `+`, and at least one
abbrev pub is_bare : List ℕ → Bool
is_bare text = nat_lt 0 (length text) && list_all is_value_byte text

-- a text is written in quotes, or as it is; a number as `read_number` reads it, and a range as two numbers with `..` between
abbrev pub Spells : Cond → List ℕ → Type 0
Spells (Equal attr (Word text)) written = (written ≡ value_text (Word text)) ⊎ ((written ≡ text) × IsTrue (is_bare text))
Spells (Equal attr (Number n)) written = number_in written ≡ Some (pos n)
Spells (Between attr low high) written =
    (ends : List ℕ × List ℕ) × (written ≡ ends.0 ++ (codes ".." ++ ends.1)) × (number_in ends.0 ≡ Some (pos low)) × (number_in ends.1 ≡ Some (pos high))

-- the attribute's name, then `=`, and then the value
pub record SpellsCond (s : Schema) (c : Cond) (text : List ℕ) : Type 0 where
  pub written : List ℕ
  pub is : text ≡ name_at s (attr_of c) ++ (codes "=" ++ written)
  pub spells : Spells c written

-- the columns, then the attributes behind ` by `, if there are any, and then the conditions behind ` where `, if there are any
pub record Says (s : Schema) (q : Slice) (text : List ℕ) : Type 0 where
  -- the conditions as they are written
  pub conds : List (List ℕ)
  pub each : AllZip (SpellsCond s) q.conds conds
  pub is : text ≡ columns_text s q.columns ++ (by_text s q.group ++ where_text conds)
