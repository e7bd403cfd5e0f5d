-- The runs of a list: none is empty, and all but the last are full.
use Rattle.std.proofs.Common.{◌≡◌, inl, inr, ℕ, suc, ◌<◌, Bool, List, [], ◌∷◌, ◌++◌, length, sym, subst, arith}
use Rattle.std.specs.Prelude.{◌==◌}
use Rattle.std.proofs.lemmas.Bool.{cases_Bool, eqb-true}
use Rattle.std.specs.List.{AllByRecursion}
use Rattle.spec_tree.specs.Runs.{full, full_after, rest, runs, short}
use Rattle.spec_tree.proofs.Runs.{full_after-more, full_after-whole}
use Rattle.spec_leaves.proofs.Touched.{Packed}

module _ {E : Type 0} (z : E → ℕ) (low high room : ℕ) (some : 0 < room) where
  full-lengths : (held xs : List E) → AllByRecursion (λ (r : List E). length r ≡ room) (full_after room held xs)
  full-lengths held [] = tt
  full-lengths held (x ∷ xs) = elim (cases_Bool (length (held ++ x ∷ []) == room)) [
    | inl e ↦ subst (AllByRecursion (λ (r : List E). length r ≡ room)) (sym (full_after-whole room held x xs e)) (eqb-true (length (held ++ x ∷ [])) room e, full-lengths [] xs)
    | inr e ↦ subst (AllByRecursion (λ (r : List E). length r ≡ room)) (sym (full_after-more room held x xs e)) (full-lengths (held ++ x ∷ []) xs)
  ]

  packed-short : (l : List E) → Packed z low high room some (short l)
  packed-short [] = tt
  packed-short (x ∷ l) = (omega arith, λ none. absurd (omega (arith, none)), tt)

  packed-more : (rs : List (List E)) (l : List E) → AllByRecursion (λ (r : List E). length r ≡ room) rs → Packed z low high room some (rs ++ short l)
  packed-more [] l h = packed-short l
  packed-more (r ∷ rs) l h = (omega (arith, h.0, some), λ more. h.0, packed-more rs l h.1)

  pub packed-runs : (xs : List E) → Packed z low high room some (runs room xs)
  packed-runs xs = packed-more (full room xs) (rest room xs) (full-lengths [] xs)
