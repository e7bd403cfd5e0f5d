-- What admitting facts makes of names, and the entries of the names file for the new ones.
use Rattle.std.specs.Prelude.{◌≡◌, ℕ, ◌<◌, ◌≤◌, Bool, cond, List, [], ◌∷◌, ◌++◌, length, get_or, take, map, flat_map, find, nat_lt, Option}
use Rattle.std.specs.List.{list_any, range_with_len}
use Rattle.std.specs.Str.{bytes_eq}
use Rattle.fact_model.specs.declared.fact.Fact.{Fact}
use Rattle.fact_model.specs.declared.fact.Value.{Value}
use Rattle.fact_model.specs.declared.fact.Value.TheVariants.{Word, Number}
use Rattle.fact_model.specs.Fact.{value_at}
use Rattle.fact_model.specs.Limits.{number_limit}
use Rattle.cube_schema.specs.declared.Kind.{Kind}
use Rattle.cube_schema.specs.declared.Kind.TheVariants as kind
use Rattle.cube_schema.specs.Kinds.{max_of}
use Rattle.cube_schema.specs.Agreeing.{IsOfKind}
use Rattle.spec_points.specs.Codes.{Text, admitted, texts_at, for_attr}
use Rattle.spec_points.specs.Agree.{name_limit}
use Rattle.spec_points.specs.Points.{Names, coord}
use Rattle.attr_dict.specs.Book.{Book, kind_at, names_at}

-- a fact has one value of the right kind for each attribute
pub record Agrees (kinds : List Kind) (x : Fact) : Type 0 where
  pub values : length x.values ≡ length kinds
  pub each : (a : ℕ) → a < length kinds → IsOfKind (get_or kinds a kind.Number) (value_at x a)

-- the names of an attribute with those of the facts
abbrev pub names_with : Book → List Fact → ℕ → List Text
names_with b facts a = admitted bytes_eq (names_at b a) (texts_at a facts)

-- the first attribute whose names would pass its `max`
abbrev pub first_full : Book → List Fact → Option ℕ
first_full b facts = find (λ a. nat_lt (max_of (kind_at b a)) (length (names_with b facts a))) (range_with_len 0 (length b.kinds))

-- the old names stand in front of the new
abbrev pub Grew : List Text → List Text → Type 0
Grew old new = take (length old) new ≡ old

-- the coordinates of a fact, one for each attribute
abbrev pub codes_of : List (List Text) → Fact → List ℕ
codes_of names x = map (λ a. coord (get_or names a []) (value_at x a)) (range_with_len 0 (length x.values))

-- the attribute, the length and the bytes
abbrev pub entry_text : ℕ × Text → List ℕ
entry_text e = e.0 ∷ length e.1 ∷ e.1

abbrev pub entries_text : List (ℕ × Text) → List ℕ
entries_text es = flat_map entry_text es

-- those that are not there yet, each once
abbrev pub fresh : {A : Type 0} → (A → A → Bool) → List A → List A → List A
fresh same seen [] = []
fresh same seen (x ∷ xs) = cond (list_any (same x) seen) (fresh same seen xs) (x ∷ fresh same (seen ++ x ∷ []) xs)

-- the names are those of these entries
abbrev pub Lists : Book → List (ℕ × Text) → Type 0
Lists b es = (a : ℕ) → for_attr a es ≡ names_at b a

-- the code of a text is at most the limit of names, and a number is within its limit
abbrev pub HasSmallCode : List Text → Value → Type 0
HasSmallCode names (Word t) = coord names (Word t) ≤ name_limit
HasSmallCode names (Number n) = n ≤ number_limit

-- all codes of the fact are within the limits of names and of numbers
abbrev pub HasSmallCodes : Names → Fact → Type 0
HasSmallCodes names x = (a : ℕ) → HasSmallCode (names a) (value_at x a)
