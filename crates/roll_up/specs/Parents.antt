-- Values with their parents.
use Rattle.std.specs.Prelude.{ℕ, Bool, cond, List, [], ◌∷◌}
use Rattle.std.specs.List.{list_any}
use Rattle.fact_model.specs.Value.{same_value}
use Rattle.fact_model.specs.declared.fact.Value.{Value}

-- a value and its parent
abbrev pub Parent : Type 0
Parent = Value × List ℕ

-- the parent of a value; the empty text if it has none
abbrev pub parent_of : List Parent → Value → List ℕ
parent_of [] v = []
parent_of (p ∷ parents) v = cond (same_value v p.0) p.1 (parent_of parents v)

-- the value has a parent
abbrev pub has_parent : List Parent → Value → Bool
has_parent parents v = list_any (λ (p : Parent). same_value v p.0) parents
