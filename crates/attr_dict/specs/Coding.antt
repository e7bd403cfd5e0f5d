-- Entries of the names file, while facts are coded.
use Rattle.std.specs.Prelude.{◌≡◌, ℕ, List, [], ◌∷◌, get_or}
use Rattle.fact_model.specs.declared.fact.Value.{Value}
use Rattle.fact_model.specs.declared.fact.Value.TheVariants.{Word, Number}
use Rattle.spec_points.specs.Codes.{Text, for_attr}

-- the entry of a value, if it is a text
abbrev pub entry_in : ℕ → Value → List (ℕ × Text)
entry_in a (Word t) = (a, t) ∷ []
entry_in a (Number n) = []

-- the names of each attribute are the texts of its entries
abbrev pub AreNamesOf : List (ℕ × Text) → List (List Text) → Type 0
AreNamesOf es names = (a : ℕ) → for_attr a es ≡ get_or names a []
