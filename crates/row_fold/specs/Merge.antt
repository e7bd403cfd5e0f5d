-- Two lists in order, merged: entries of equal keys are joined.
use Rattle.std.specs.Prelude.{Bool, true, false, List, [], ◌∷◌, map}
use Rattle.std.specs.declared.cmp.Ordering.{Ordering}
use Rattle.std.specs.Ordering.{is_lt}

module _ {E : Type 0} (before : E → E → Bool) (join : E → E → E) where
  -- one old entry merged into the new ones; `more` merges the entries after it
  abbrev pub merge_one : E → (List E → List (E × Bool)) → List E → List (E × Bool)
  merge_one o more [] = (o, true) ∷ more []
  merge_one o more (d ∷ new) =
      let later = merge_one o more new in
      elim (before o d) [
        | true ↦ (o, true) ∷ more (d ∷ new)
        | false ↦ elim (before d o) [ true ↦ (d, false) ∷ later | false ↦ (join o d, true) ∷ more new ]
      ]

  -- all entries in order, each with whether an old entry is part of it
  abbrev pub merged : List E → List E → List (E × Bool)
  merged [] new = map (λ d. (d, false)) new
  merged (o ∷ old) new = merge_one o (merged old) new

-- the entries of a merge
abbrev pub entries_of : {E : Type 0} → List (E × Bool) → List E
entries_of marked = map (λ e. e.0) marked

-- the key of the first entry comes before that of the second
abbrev pub before : {K C : Type 0} → (K → K → Ordering) → (K × C) → (K × C) → Bool
before R d e = is_lt (R d.0 e.0)

-- two entries of one key joined
abbrev pub join_entries : {K C : Type 0} → (C → C → C) → (K × C) → (K × C) → (K × C)
join_entries join d e = (d.0, join d.1 e.1)

-- two lists of entries, merged by their keys
abbrev pub together : {K C : Type 0} → (K → K → Ordering) → (C → C → C) → List (K × C) → List (K × C) → List (K × C)
together R join old new = entries_of (merged (before R) (join_entries join) old new)
