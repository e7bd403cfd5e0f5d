-- The arities of points by their numbers.
use Rattle.std.proofs.Common.{◌≡◌, ◌≤◌, ◌<◌, ◌+◌, ◌*◌, ◌^◌, ℕ, zero, suc, List, [], ◌∷◌, ◌++◌, length, map, refl, ap, sym, ◌∙◌, arith, inl, inr, ◌⊎◌, append_assoc, length-append}
use Rattle.std.specs.Prelude.{◌==◌, flat_map, replicate, slice_index}
use Rattle.std.specs.List.{range_with_len}
use Rattle.std.proofs.lemmas.Bool.{cases_Bool, eqb-true, eqb-false}
use Rattle.std.proofs.lemmas.List.{replicate-append-replicate, length-replicate}
use Rattle.audit_tree.specs.Fitting.{IsNextArity}
use Rattle.audit_tree.specs.Numbers.{arities}

-- so many of each number from s on
abbrev pub run : (ℕ → ℕ) → ℕ → ℕ → List ℕ
run f s n = flat_map (λ (c : ℕ × ℕ). replicate c.1 c.0) (map (λ a. (a, f a)) (range_with_len s n))

pub run-none : (f : ℕ → ℕ) (s n : ℕ) → ((a : ℕ) → a < s + n → f a ≡ 0) → run f s n ≡ []
run-none f s zero h = refl
run-none f s (suc n) h = ap (λ (k : ℕ). replicate k s ++ run f (s + 1) n) (h s (omega arith)) ∙ run-none f (s + 1) n (λ a lt. h a (omega (arith, lt)))

run-same : (f g : ℕ → ℕ) (s n : ℕ) → ((a : ℕ) → s ≤ a → f a ≡ g a) → run f s n ≡ run g s n
run-same f g s zero h = refl
run-same f g s (suc n) h =
    let here = h s (omega arith) in
    let rest = run-same f g (s + 1) n (λ a le. h a (omega (arith, le))) in
    λ i. replicate (here i) s ++ rest i

-- the first of a number that is there
pub run-split : (f g : ℕ → ℕ) (a k s n : ℕ) → s ≤ a → a < s + n → ((b : ℕ) → b < a → f b ≡ 0) → ((b : ℕ) → b < a → g b ≡ 0) → f a ≡ k + g a
    → ((b : ℕ) → suc a ≤ b → f b ≡ g b) → run f s n ≡ replicate k a ++ run g s n
run-split f g a k s zero low high fz gz at later = absurd (omega (arith, low, high))
run-split f g a k s (suc n) low high fz gz at later = elim (cases_Bool (s == a)) [
  | inl e ↦
      let same : s ≡ a = eqb-true s a e in
      let rest : run f (s + 1) n ≡ run g (s + 1) n = run-same f g (s + 1) n (λ b le. later b (omega (arith, le, same))) in
      let fs : f s ≡ k + g s = ap f same ∙ (at ∙ ap (λ (x : ℕ). k + g x) (sym same)) in
      ap (λ (m : ℕ). replicate m s ++ run f (s + 1) n) fs
      ∙ (ap (λ (l : List ℕ). l ++ run f (s + 1) n) (sym (replicate-append-replicate k (g s) s))
      ∙ (append_assoc (replicate k s) (replicate (g s) s) (run f (s + 1) n)
      ∙ (ap (λ (r : List ℕ). replicate k s ++ (replicate (g s) s ++ r)) rest
      ∙ ap (λ (x : ℕ). replicate k x ++ run g s (suc n)) same)))
  | inr e ↦
      let differ : s ≡ a → ⊥ = eqb-false s a e in
      let less : s < a = (elim (cases_le s a low) [ inl lt ↦ lt | inr is ↦ absurd (differ is) ]) in
      let none : f s ≡ 0 = fz s less in
      let nothing : g s ≡ 0 = gz s less in
      ap (λ (m : ℕ). replicate m s ++ run f (s + 1) n) none
      ∙ (run-split f g a k (s + 1) n (omega (arith, less)) (omega (arith, high)) fz gz at later
      ∙ ap (λ (m : ℕ). replicate k a ++ (replicate m s ++ run g (s + 1) n)) (sym nothing))
]
  where
    cases_le : (x y : ℕ) → x ≤ y → (x < y) ⊎ (x ≡ y)
    cases_le x y le = elim (cases_Bool (x == y)) [ inl e ↦ inr (eqb-true x y e) | inr e ↦ let d : x ≡ y → ⊥ = eqb-false x y e in inl (omega (arith, le, d)) ]

-- what stands in front of a list of numbers is one that is there
pub run-head : (f : ℕ → ℕ) (s n x : ℕ) (xs : List ℕ) → x ∷ xs ≡ run f s n → 0 < f x
run-head f s zero x xs e = absurd cc
run-head f s (suc n) x xs e = by (run-head f (s + 1) n x xs) (f s) refl e
  where
    by : (x ∷ xs ≡ run f (s + 1) n → 0 < f x) → (k : ℕ) → f s ≡ k → x ∷ xs ≡ replicate k s ++ run f (s + 1) n → 0 < f x
    by later zero is same = later same
    by later (suc k) is same = let front : x ≡ s = ap (λ (l : List ℕ). slice_index l 0) same in omega (arith, ap f front, is)

-- ---- how many they are

abbrev total : (ℕ → ℕ) → ℕ → ℕ → ℕ
total f s zero = 0
total f s (suc n) = f s + total f (s + 1) n

run-long : (f : ℕ → ℕ) (s n : ℕ) → length (run f s n) ≡ total f s n
run-long f s zero = refl
run-long f s (suc n) = length-append (replicate (f s) s) (run f (s + 1) n) ∙ (λ i. length-replicate (f s) s i + run-long f (s + 1) n i)

total-few : (f : ℕ → ℕ) (s n : ℕ) → ((a : ℕ) → f a ≤ 2 ^ 40) → total f s n ≤ n * 2 ^ 40
total-few f s zero h = omega arith
total-few f s (suc n) h = omega (arith, h s, total-few f (s + 1) n h)

pub arities-few : (counts : List ℕ) → ((a : ℕ) → slice_index counts a ≤ 2 ^ 40) → length (arities counts) ≤ 9 * 2 ^ 40
arities-few counts h = let long = run-long (slice_index counts) 0 9 in let few = total-few (slice_index counts) 0 9 h in omega (arith, long, few)

-- where a number is there, the list is not empty
run-there : (f : ℕ → ℕ) (s n a : ℕ) → s ≤ a → a < s + n → 0 < f a → run f s n ≡ [] → ⊥
run-there f s zero a low high some e = omega (arith, low, high)
run-there f s (suc n) a low high some e = elim (cases_Bool (s == a)) [
  | inl is ↦ let same : s ≡ a = eqb-true s a is in omega (arith, ap f same, some, ap length e, length-append (replicate (f s) s) (run f (s + 1) n), length-replicate (f s) s)
  | inr differs ↦
      let differ : s ≡ a → ⊥ = eqb-false s a differs in
      run-there f (s + 1) n a (omega (arith, low, differ)) (omega (arith, high)) some (nil-back (replicate (f s) s) (run f (s + 1) n) e)
]
  where
    nil-back : (xs ys : List ℕ) → xs ++ ys ≡ [] → ys ≡ []
    nil-back [] ys e = e
    nil-back (x ∷ xs) ys e = absurd cc

pub run-some : (left : List ℕ) (a : ℕ) → a < 9 → 0 < slice_index left a → arities left ≡ [] → ⊥
run-some left a nine some e = run-there (slice_index left) 0 9 a (omega arith) (omega (arith, nine)) some e

-- nothing is left, or there is a least arity of which there is something
pub data Leaves (left : List ℕ) : Type 0 where
  leaves_none : arities left ≡ [] → Leaves left
  leaves_some : {arity : ℕ} → IsNextArity left arity → Leaves left

leaves-from : (left : List ℕ) (n s : ℕ) → s + n ≡ 9 → ((b : ℕ) → b < s → slice_index left b ≡ 0) → Leaves left
leaves-from left zero s at none = leaves_none (run-none (slice_index left) 0 9 (λ a lt. none a (omega (arith, at, lt))))
leaves-from left (suc n) s at none = elim (cases_Bool (slice_index left s == 0)) [
  | inl is ↦ leaves-from left n (s + 1) (omega (arith, at)) (λ b lt. elim (cases_Bool (b == s)) [
    | inl e ↦ ap (slice_index left) (eqb-true b s e) ∙ eqb-true (slice_index left s) 0 is
    | inr e ↦ let differ : b ≡ s → ⊥ = eqb-false b s e in none b (omega (arith, lt, differ))
  ])
  | inr is ↦
      let some : slice_index left s ≡ 0 → ⊥ = eqb-false (slice_index left s) 0 is in
      leaves_some {arity = s} (record { nine = omega (arith, at); some = omega (arith, some); first = none })
]

pub leaves-cases : (left : List ℕ) → Leaves left
leaves-cases left = leaves-from left 9 0 refl (λ b lt. absurd (omega (arith, lt)))
