-- A point whose coordinates are positive, behind another whose are.
use Rattle.std.proofs.Common.{◌≡◌, ◌≤◌, ◌<◌, ◌+◌, ◌-◌, ℕ, zero, suc, Bool, true, List, ◌∷◌, take, drop, length, get_or, inl, inr, refl, sym, ap, ◌∙◌, arith}
use Rattle.std.specs.Prelude.{nat_lt, slice_index, ◌&&◌}
use Rattle.std.specs.List.{list_all}
use Rattle.std.proofs.Math.Bool.{and-true}
use Rattle.std.proofs.lemmas.Bool.{cases_Bool, true≢false}
use Rattle.std.proofs.lemmas.List.{get_or_append_left, take-append-le, take_at}
use Rattle.std.proofs.lemmas.List.Folds.{list_all_at, list_all_more}
use Rattle.be_numbers.specs.Formats.{many}
use Rattle.be_numbers.specs.Numbers.{number}
use Rattle.page_entry.specs.Bytes.{width, zeros}
use Rattle.page_entry.proofs.Coordinates.{coordinates, eight, used-all}
use Rattle.page_entry.proofs.Loops.{many-long}

module _ {A : Type 0} (r : List ℕ → A) (m : ℕ) where
  many-front : (n i : ℕ) (b : List ℕ) → i ≤ n → take i (many r m n b) ≡ many r m i b
  many-front n zero b le = refl
  many-front zero (suc i) b le = absurd (omega (arith, le))
  many-front (suc n) (suc i) b le = ap (λ l. r b ∷ l) (many-front n i (drop m b) (omega (arith, le)))

-- at least 1
abbrev pub positive : ℕ → Bool
positive n = nat_lt 0 n

module _ (wide : Bool) (arity : ℕ) (b : List ℕ) (le : arity ≤ 8) where
  -- each used one is, where all are
  pub each-positive : list_all positive (take arity (coordinates wide arity b)) ≡ true → (i : ℕ) → i < arity → positive (slice_index (coordinates wide arity b) i) ≡ true
  each-positive all i lt =
      let xs = many (number (width wide)) (width wide) arity b in
      let there : i < length xs = omega (arith, lt, many-long (number (width wide)) (width wide) arity b) in
      let at : get_or xs i 0 ≡ slice_index (coordinates wide arity b) i = sym (get_or_append_left xs (zeros (8 - arity)) 0 i there) in
      elim (cases_Bool (positive (slice_index (coordinates wide arity b) i))) [
        | inl is ↦ is
        | inr fails ↦ absurd (true≢false (sym all ∙ (used-all wide arity b positive ∙ list_all_at positive xs i 0 there (ap positive at ∙ fails))))
      ]

  -- one that is need not be looked at
  pub front-same : (i : ℕ) → i < arity → positive (slice_index (coordinates wide arity b) i) ≡ true
      → list_all positive (take (i + 1) (coordinates wide arity b)) ≡ list_all positive (take i (coordinates wide arity b))
  front-same i lt is =
      list_all_more positive (coordinates wide arity b) i 0 (omega (arith, lt, le, eight wide arity b le))
      ∙ (ap (λ (t : Bool). list_all positive (take i (coordinates wide arity b)) && t) is ∙ and-true (list_all positive (take i (coordinates wide arity b))))

  -- the first ones are those of a point of so many
  pub front-alone : (i : ℕ) → i ≤ arity → list_all positive (take i (coordinates wide arity b)) ≡ list_all positive (take i (coordinates wide i b))
  front-alone i few =
      let xs = many (number (width wide)) (width wide) arity b in
      ap (list_all positive) (take-append-le i xs (zeros (8 - arity)) (omega (arith, few, many-long (number (width wide)) (width wide) arity b))
      ∙ (many-front (number (width wide)) (width wide) arity i b few ∙ sym (take_at (many (number (width wide)) (width wide) i b) (zeros (8 - i)) i (many-long (number (width wide)) (width wide) i b))))
