-- Numbers of a range, of which none stands twice in a list.
use Rattle.std.proofs.Common.{◌≡◌, ◌≤◌, ◌<◌, ◌+◌, ℕ, suc, false, List, [], ◌∷◌, ◌++◌, nat_eq, sym, subst, arith}
use Rattle.std.specs.List.{AllByRecursion, IsDistinct}
use Rattle.std.proofs.lemmas.Bool.{ne_eqb}
use Rattle.std.proofs.lemmas.Map.Keys.{IsDistinct-cons, IsDistinct-head, IsDistinct-tail}
use Rattle.spec_tree.proofs.Tops.{every-append}

-- the number is one of so many from the first on
abbrev IsFrom : ℕ → ℕ → ℕ → Type 0
IsFrom first most n = (first ≤ n) × (n < first + most)

abbrev AreFrom : ℕ → ℕ → List ℕ → Type 0
AreFrom first most ns = AllByRecursion (IsFrom first most) ns

-- these numbers are of so many from the first on, and none stands twice
pub record AreOnce (first most : ℕ) (ns : List ℕ) : Type 0 where
  pub within : AreFrom first most ns
  pub distinct : IsDistinct nat_eq ns

pub none-once : (first most : ℕ) → AreOnce first most []
unfolding IsDistinct
none-once first most = record { within = tt; distinct = tt }

-- a wider range has them too
within-wider : (a m b k : ℕ) → b ≤ a → a + m ≤ b + k → (ns : List ℕ) → AreFrom a m ns → AreFrom b k ns
within-wider a m b k low high [] h = tt
within-wider a m b k low high (n ∷ ns) h = ((omega (arith, low, h.0.0), omega (arith, high, h.0.1)), within-wider a m b k low high ns h.1)

-- a number outside the range is none of them
outside : (first most n : ℕ) → (IsFrom first most n → ⊥) → (ms : List ℕ) → AreFrom first most ms → AllByRecursion (λ m. nat_eq n m ≡ false) ms
outside first most n out [] h = tt
outside first most n out (m ∷ ms) h = (ne_eqb n m (λ same. out (subst (IsFrom first most) (sym same) h.0)), outside first most n out ms h.1)

-- a range may begin before them
pub once-behind : (first m k : ℕ) (ms : List ℕ) → AreOnce (first + m) k ms → AreOnce first (m + k) ms
once-behind first m k ms g = record { within = within-wider (first + m) k first (m + k) (omega arith) (omega arith) ms g.within; distinct = g.distinct }

-- the numbers of two ranges, one behind the other
pub once-append : (first m k : ℕ) (ns ms : List ℕ) → AreOnce first m ns → AreOnce (first + m) k ms → AreOnce first (m + k) (ns ++ ms)
once-append first m k [] ms h g = once-behind first m k ms g
once-append first m k (n ∷ ns) ms h g =
    let rest = once-append first m k ns ms (record { within = h.within.1; distinct = IsDistinct-tail nat_eq n ns h.distinct }) g in
    let behind = outside (first + m) k n (λ at. omega (arith, at.0, h.within.0.1)) ms g.within in
    record {
      within = ((h.within.0.0, omega (arith, h.within.0.1)), rest.within);
      distinct = IsDistinct-cons nat_eq n (ns ++ ms) (every-append (λ m. nat_eq n m ≡ false) ns ms (IsDistinct-head nat_eq n ns h.distinct) behind) rest.distinct;
    }

-- the number right behind the range comes first
pub once-cons : (first most : ℕ) (ns : List ℕ) → AreOnce first most ns → AreOnce first (suc most) ((first + most) ∷ ns)
once-cons first most ns h = record {
  within = ((omega arith, omega arith), within-wider first most first (suc most) (omega arith) (omega arith) ns h.within);
  distinct = IsDistinct-cons nat_eq (first + most) ns (outside first most (first + most) (λ at. omega (arith, at.1)) ns h.within) h.distinct;
}
