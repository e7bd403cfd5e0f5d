-- How many coordinates of a place are used.
use Rattle.std.specs.Prelude.{◌≡◌, ℕ, zero, suc, ◌≤◌, List, [], ◌∷◌, length}
use Rattle.std.specs.List.{AllByRecursion}
use Rattle.spec_points.specs.Points.{padded}

-- the coordinates before the first zero
abbrev pub arity_of : List ℕ → ℕ
arity_of [] = 0
arity_of (zero ∷ rest) = 0
arity_of (suc c ∷ rest) = suc (arity_of rest)

-- a place of this many used coordinates, which are positive
abbrev pub HasArity : ℕ → List ℕ → Type 0
HasArity n place = (codes : List ℕ) × (length codes ≡ n) × AllByRecursion (λ c. 1 ≤ c) codes × (place ≡ padded codes)
