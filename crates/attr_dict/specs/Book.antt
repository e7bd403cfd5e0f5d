-- The names of a schema's attributes, the codes of values and the values of codes.
use Rattle.std.specs.Prelude.{◌≡◌, ℕ, suc, ◌≤◌, true, false, List, [], length, get_or, map, nat_le, option_map, slice_index, take, Option, Some, None, if◌then◌else◌}
use Rattle.std.specs.List.{All, IsDistinct}
use Rattle.std.specs.Str.{bytes_eq}
use Rattle.fact_model.specs.declared.fact.Value.{Value}
use Rattle.fact_model.specs.declared.fact.Value.TheVariants.{Word, Number}
use Rattle.fact_model.specs.declared.fact.Fact.{Fact}
use Rattle.cube_schema.specs.declared.Attr.{Attr}
use Rattle.cube_schema.specs.declared.Kind.{Kind}
use Rattle.cube_schema.specs.declared.Kind.TheVariants as kind
use Rattle.cube_schema.specs.declared.Schema.{Schema}
use Rattle.cube_schema.specs.Kinds.{max_of}
use Rattle.spec_points.specs.Codes.{Text, place, value_in, names_of}
use Rattle.spec_points.specs.Agree.{name_limit}
use Rattle.fact_model.specs.Limits.{number_limit}

-- the kind and the names of each attribute; a number attribute has no names
pub record Book : Type 0 where
  pub kinds : List Kind
  pub names : List (List Text)

abbrev pub kind_at : Book → ℕ → Kind
kind_at b a = get_or b.kinds a kind.Number

abbrev pub names_at : Book → ℕ → List Text
names_at b a = get_or b.names a []

-- a text has at most 255 bytes
abbrev pub IsShort : Text → Type 0
IsShort t = length t ≤ 255

-- what always holds: 16 attributes at most, names within each attribute's `max`, none of an attribute twice, and each of 255 bytes at most
pub record IsBook (b : Book) : Type 0 where
  pub same : length b.names ≡ length b.kinds
  pub few : length b.kinds ≤ 16
  pub ranges : (a : ℕ) → max_of (kind_at b a) ≤ name_limit
  pub within : (a : ℕ) → length (names_at b a) ≤ max_of (kind_at b a)
  pub distinct : (a : ℕ) → IsDistinct bytes_eq (names_at b a)
  pub short : (a : ℕ) → All IsShort (names_at b a)

-- the first names of each attribute, as many as these numbers say
abbrev pub shown_names : Book → List ℕ → ℕ → List Text
shown_names b at a = take (slice_index at a) (names_at b a)

abbrev pub none_yet : List Text
none_yet = []

-- no names
abbrev pub no_names : Schema → Book
no_names s = record { kinds = map (λ (attr : Attr). attr.kind) s.attrs; names = map (λ (attr : Attr). none_yet) s.attrs }

-- the names of each attribute are the distinct texts of the facts, in order of first appearance
abbrev pub HoldsNamesOf : Book → List Fact → Type 0
HoldsNamesOf b facts = (a : ℕ) → names_at b a ≡ names_of facts a

-- the code of a value of this kind
abbrev pub code_for : Kind → List Text → Value → Option ℕ
code_for (kind.Word max) names (Word t) = option_map suc (place bytes_eq t names)
code_for (kind.Word max) names (Number n) = None
code_for kind.Number names (Word t) = None
code_for kind.Number names (Number n) = Some (suc n)

abbrev pub code_at : Book → ℕ → Value → Option ℕ
code_at b a v = code_for (kind_at b a) (names_at b a) v

-- the value of a code of this kind
abbrev pub value_for : Kind → List Text → ℕ → Option Value
value_for (kind.Word max) names code = value_in true names code
value_for kind.Number names code = if nat_le code (suc number_limit) then value_in false names code else None

abbrev pub value_of : Book → ℕ → ℕ → Option Value
value_of b a code = value_for (kind_at b a) (names_at b a) code
