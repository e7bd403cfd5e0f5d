-- Where a leaf ends: entries go into a buffer until it is full or the next one has another arity.
use Rattle.std.specs.Prelude.{ℕ, Bool, true, false, ◌==◌, ◌||◌, not, List, [], ◌∷◌, ◌++◌, length, ◌≡◌, ◌<◌}
use Rattle.std.specs.List.{AllByRecursion}
use Rattle.spec_tree.specs.Runs.{short}

module _ {E : Type 0} (arity : E → ℕ) (room : ℕ → ℕ) where
  -- the number of entries is that for which a leaf has room
  abbrev pub is_full_leaf : List E → Bool
  is_full_leaf [] = false
  is_full_leaf (e ∷ es) = length (e ∷ es) == room (arity e)

module _ {E : Type 0} (arity : E → ℕ) where
  -- the entry's arity differs from that of the leaf's entries
  abbrev pub is_other_arity : List E → E → Bool
  is_other_arity [] next = false
  is_other_arity (e ∷ es) next = not (arity e == arity next)

module _ {E : Type 0} (arity : E → ℕ) (room : ℕ → ℕ) where
  -- the buffer is a complete leaf, given the entries to come
  abbrev pub leaf_ends : List E → List E → Bool
  leaf_ends [] to_come = false
  leaf_ends (e ∷ es) [] = true
  leaf_ends (e ∷ es) (next ∷ to_come) = is_full_leaf arity room (e ∷ es) || is_other_arity arity (e ∷ es) next

  -- the leaves made of the buffer and the entries to come
  abbrev pub leaf_runs : List E → List E → List (List E)
  leaf_runs buffer [] = short buffer
  leaf_runs buffer (e ∷ es) = elim (leaf_ends buffer (e ∷ es)) [
    | true ↦ buffer ∷ leaf_runs (e ∷ []) es
    | false ↦ leaf_runs (buffer ++ e ∷ []) es
  ]

-- the arities of the views rise
abbrev pub Rise : {E : Type 0} → List (ℕ × List E) → Type 0
Rise [] = Unit {0}
Rise (v ∷ []) = Unit {0}
Rise (v ∷ w ∷ views) = (v.0 < w.0) × Rise (w ∷ views)

-- all entries have this arity
abbrev pub HaveArity : {E : Type 0} → (E → ℕ) → ℕ → List E → Type 0
HaveArity arity a es = AllByRecursion (λ e. arity e ≡ a) es

-- the views of a tree: each has entries of its own arity, which fit in a leaf, and the arities rise
pub record AreViews {E : Type 0} (arity : E → ℕ) (room : ℕ → ℕ) (views : List (ℕ × List E)) : Type 0 where
  pub arities : AllByRecursion (λ v. HaveArity arity v.0 v.1) views
  pub rise : Rise views
  pub rooms : AllByRecursion (λ v. 0 < room v.0) views
