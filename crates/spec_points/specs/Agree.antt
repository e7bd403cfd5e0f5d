-- When facts and a slice agree with a schema, when facts have codes, and when a view covers a slice.
use Rattle.std.specs.Prelude.{◌≡◌, ℕ, ◌-◌, ◌^◌, ◌<◌, ◌≤◌, ◌==◌, Bool, true, false, List, [], ◌∷◌, is_some}
use Rattle.std.specs.List.{All, AllByRecursion, list_any}
use Rattle.fact_model.specs.declared.fact.Value.{Value}
use Rattle.fact_model.specs.declared.fact.Value.TheVariants.{Word, Number}
use Rattle.fact_model.specs.declared.fact.Fact.{Fact}
use Rattle.fact_model.specs.declared.slice.Cond.{Cond}
use Rattle.fact_model.specs.declared.slice.Cond.TheVariants.{Equal, Between}
use Rattle.fact_model.specs.declared.slice.Column.{Column}
use Rattle.fact_model.specs.declared.slice.Column.TheVariants.{Count, Sum, Min, Max}
use Rattle.fact_model.specs.declared.slice.Slice.{Slice}
use Rattle.fact_model.specs.Fact.{value_at}
use Rattle.fact_model.specs.Slice.{attr_of}
use Rattle.spec_points.specs.Codes.{Text, code_in}
use Rattle.spec_points.specs.Points.{View, Names, coord}
use Rattle.spec_points.specs.Answer.{top_coord}

-- the value is a text
abbrev pub is_text : Value → Bool
is_text (Word t) = true
is_text (Number n) = false

-- `text` says which attributes are texts; an attribute that the fact does not have is not a text
abbrev pub AgreesFact : (ℕ → Bool) → Fact → Type 0
AgreesFact text x = (a : ℕ) → is_text (value_at x a) ≡ text a

-- the names give the value a code
abbrev pub HasCode : List Text → Value → Type 0
HasCode names v = is_some (code_in names v) ≡ true

-- all values of the fact have codes
abbrev pub IsCoded : Names → Fact → Type 0
IsCoded names x = (a : ℕ) → HasCode (names a) (value_at x a)

-- the codes of the fact are coordinates
abbrev pub InRange : Names → Fact → Type 0
InRange names x = (a : ℕ) → coord (names a) (value_at x a) ≤ top_coord

-- the most names of an attribute
abbrev pub name_limit : ℕ
name_limit = 2 ^ 24 - 1

-- the greatest number whose coordinate is below the greatest of 32 bits
abbrev pub narrow_limit : ℕ
narrow_limit = 2 ^ 32 - 3

-- the view has the attribute
abbrev pub among : View → ℕ → Bool
among view a = list_any (λ v. v == a) view

-- a text attribute is compared with a text, and a number attribute with a number or a range
abbrev pub AgreesCond : (ℕ → Bool) → Cond → Type 0
AgreesCond text (Equal a v) = is_text v ≡ text a
AgreesCond text (Between a low high) = text a ≡ false

-- the measure is one of the first four
abbrev pub AgreesColumn : Column → Type 0
AgreesColumn Count = Unit {0}
AgreesColumn (Sum m) = m < 4
AgreesColumn (Min m) = m < 4
AgreesColumn (Max m) = m < 4

-- no attribute has two conditions
abbrev pub Once : List Cond → Type 0
Once [] = Unit {0}
Once (c ∷ conds) = AllByRecursion (λ d. (attr_of d == attr_of c) ≡ false) conds × Once conds

-- the conditions have the right kinds and different attributes, and the columns have existing measures
pub record AgreesSlice (text : ℕ → Bool) (s : Slice) : Type 0 where
  pub conds : All (AgreesCond text) s.conds
  pub once : Once s.conds
  pub columns : All AgreesColumn s.columns

-- the view has all attributes that are grouped or have a condition
pub record Covers (view : View) (s : Slice) : Type 0 where
  pub group : All (λ a. among view a ≡ true) s.group
  pub conds : All (λ c. among view (attr_of c) ≡ true) s.conds
