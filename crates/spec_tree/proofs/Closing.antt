-- Which level is closed next, by its index, and what closing it leaves.
use Rattle.std.proofs.Common.{◌≡◌, ℕ, zero, suc, Bool, true, false, List, [], ◌∷◌, ◌++◌, length, refl, ap, sym, ◌∙◌, inl, inr, arith, ◌≤◌, ◌<◌, ◌+◌, length-append, subst, Option, Some, None}
use Rattle.std.specs.Prelude.{if◌then◌else◌, ◌==◌, option_map, set}
use Rattle.std.proofs.lemmas.Bool.{cases_Bool, eqb-true, eqb-false, ne_eqb, true≢false}
use Rattle.spec_tree.specs.Pending.{push, close_full, NoneFull, Orderly}
use Rattle.std.specs.List.{AllByRecursion}
use Rattle.spec_tree.specs.Levels.{full_from, full_level, held_from, children_at, put_at, closed}
use Rattle.spec_tree.proofs.Options.{none≢some, some_inj}
use Rattle.spec_tree.proofs.Settle.{close_full-whole, close_full-more}

pub next-suc : (i : ℕ) → suc (i + 1) ≡ suc i + 1
next-suc i = omega arith

-- the lowest level that passes the test, counted from i
abbrev pub lowest_from : {C : Type 0} → (List C → Bool) → ℕ → List (List C) → Option ℕ
lowest_from test i [] = None
lowest_from test i (l ∷ ls) = elim (test l) [ true ↦ Some i | false ↦ lowest_from test (i + 1) ls ]

-- the level has children
abbrev pub has_children : {C : Type 0} → List C → Bool
has_children [] = false
has_children (c ∷ l) = true

-- the level has k children
abbrev pub is_full_level : {C : Type 0} → ℕ → List C → Bool
is_full_level k l = length l == k

-- a full level is the lowest that passes the one test
pub full-from : {C : Type 0} (k i : ℕ) (ls : List (List C)) → full_from k i ls ≡ lowest_from (is_full_level k) i ls
full-from k i [] = refl
full-from k i (l ∷ ls) = by_test (length l == k) (full-from k (i + 1) ls)
  where
    by_test : (b : Bool) {x y : Option ℕ} → x ≡ y → (if b then Some i else x) ≡ elim b as (λ _. Option ℕ) [ true ↦ Some i | false ↦ y ]
    by_test true e = refl
    by_test false e = e

-- and a level that holds a child the lowest that passes the other
pub held-from : {C : Type 0} (i : ℕ) (ls : List (List C)) → held_from i ls ≡ lowest_from has_children i ls
held-from i [] = refl
held-from i ([] ∷ ls) = held-from (i + 1) ls
held-from i ((c ∷ l) ∷ ls) = refl

module _ {C : Type 0} (test : List C → Bool) where
  -- level i passes the test, and no lower one does
  abbrev pub IsFirst : ℕ → List (List C) → Type 0
  IsFirst i [] = ⊥
  IsFirst zero (l ∷ ls) = test l ≡ true
  IsFirst (suc i) (l ∷ ls) = (test l ≡ false) × IsFirst i ls

  pub lowest-yes : (i : ℕ) (l : List C) (ls : List (List C)) → test l ≡ true → lowest_from test i (l ∷ ls) ≡ Some i
  lowest-yes i l ls e = ap (λ (b : Bool). elim b as (λ _. Option ℕ) [ true ↦ Some i | false ↦ lowest_from test (i + 1) ls ]) e

  pub lowest-no : (i : ℕ) (l : List C) (ls : List (List C)) → test l ≡ false → lowest_from test i (l ∷ ls) ≡ lowest_from test (i + 1) ls
  lowest-no i l ls e = ap (λ (b : Bool). elim b as (λ _. Option ℕ) [ true ↦ Some i | false ↦ lowest_from test (i + 1) ls ]) e

  -- the index counts from i
  abbrev Found : ℕ → ℕ → List (List C) → Type 0
  Found i n ls = (j : ℕ) × (n ≡ i + j) × IsFirst j ls

  found : (i n : ℕ) (ls : List (List C)) → lowest_from test i ls ≡ Some n → Found i n ls
  found i n [] e = absurd (none≢some n e)
  found i n (l ∷ ls) e = elim (cases_Bool (test l)) [
    | inl w ↦ (0, (let z : i ≡ n = some_inj 0 i n (sym (lowest-yes i l ls w) ∙ e) in omega (arith, z)), w)
    | inr w ↦ (let r : Found (i + 1) n ls = found (i + 1) n ls (sym (lowest-no i l ls w) ∙ e) in (suc r.0, (let z : n ≡ (i + 1) + r.0 = r.1 in omega (arith, z)), (w, r.2)))
  ]

  pub first-found : (i : ℕ) (ls : List (List C)) → lowest_from test 0 ls ≡ Some i → IsFirst i ls
  first-found i ls e = let r : Found 0 i ls = found 0 i ls e in subst (λ j. IsFirst j ls) (let z : i ≡ 0 + r.0 = r.1 in omega (arith, z)) r.2

  pub none-found : (i : ℕ) (ls : List (List C)) → lowest_from test i ls ≡ None → AllByRecursion (λ l. test l ≡ false) ls
  none-found i [] e = tt
  none-found i (l ∷ ls) e = elim (cases_Bool (test l)) [
    | inl w ↦ absurd (none≢some i (sym e ∙ lowest-yes i l ls w))
    | inr w ↦ (w, none-found (i + 1) ls (sym (lowest-no i l ls w) ∙ e))
  ]

-- a test that says the same of both levels finds the same
pub lowest-same : {A B : Type 0} (p : List A → Bool) (q : List B → Bool) (i : ℕ) (ls : List (List A)) (ms : List (List B)) (l : List A) (m : List B)
    → p l ≡ q m → lowest_from p (i + 1) ls ≡ lowest_from q (i + 1) ms → lowest_from p i (l ∷ ls) ≡ lowest_from q i (m ∷ ms)
lowest-same p q i ls ms l m e f = (λ j. elim (e j) as (λ _. Option ℕ) [ true ↦ Some i | false ↦ f j ])

module _ {C : Type 0} (k : ℕ) where
  pub full-found : (i : ℕ) (ls : List (List C)) → full_level k ls ≡ Some i → IsFirst (is_full_level k) i ls
  full-found i ls e = first-found (is_full_level k) i ls (sym (full-from k 0 ls) ∙ e)

  pub full-not_found : (ls : List (List C)) → full_level k ls ≡ None → AllByRecursion (λ l. is_full_level k l ≡ false) ls
  full-not_found ls e = none-found (is_full_level k) 0 ls (sym (full-from k 0 ls) ∙ e)

module _ {C : Type 0} (k : ℕ) (two : 2 ≤ k) where
  none-first : (i : ℕ) (ls : List (List C)) → NoneFull k ls → IsFirst (is_full_level k) i ls → ⊥
  none-first i [] n f = f
  none-first zero (l ∷ ls) n f = let e : length l ≡ k = eqb-true (length l) k f in let z : length l < k = n.0 in omega (arith, e, z)
  none-first (suc i) (l ∷ ls) n f = none-first i ls n.1 f.1

  -- in order, a full level is the lowest that holds anything
  pub full-lowest : (i : ℕ) (ls : List (List C)) → Orderly k ls → IsFirst (is_full_level k) i ls → IsFirst has_children i ls
  full-lowest i [] o f = f
  full-lowest zero ([] ∷ ls) o f = absurd (let e : 0 ≡ k = eqb-true 0 k f in omega (arith, e, two))
  full-lowest zero ((x ∷ l) ∷ ls) o f = refl
  full-lowest (suc i) ([] ∷ ls) o f = (refl, full-lowest i ls o f.1)
  full-lowest (suc i) ((x ∷ l) ∷ ls) o f = absurd (none-first i ls o.1 f.1)

  -- in order, where no level is full each holds less
  pub none-orderly : (ls : List (List C)) → Orderly k ls → AllByRecursion (λ l. is_full_level k l ≡ false) ls → NoneFull k ls
  none-orderly [] o n = tt
  none-orderly ([] ∷ ls) o n = (omega (arith, two), none-orderly ls o n.1)
  none-orderly ((x ∷ l) ∷ ls) o n = ((let z : length (x ∷ l) ≡ k → ⊥ = eqb-false (length (x ∷ l)) k n.0 in let b : length (x ∷ l) ≤ k = o.0 in omega (arith, z, b)), o.1)

  pub orderly-none : (ls : List (List C)) → NoneFull k ls → Orderly k ls
  orderly-none [] n = tt
  orderly-none ([] ∷ ls) n = orderly-none ls n.1
  orderly-none ((x ∷ l) ∷ ls) n = ((let z : length (x ∷ l) < k = n.0 in omega (arith, z)), n.1)

  orderly-more : (x : C) (l : List C) (ls : List (List C)) → length l < k → NoneFull k ls → Orderly k ((l ++ x ∷ []) ∷ ls)
  orderly-more x [] ls b n = (omega (arith, two), n)
  orderly-more x (y ∷ l) ls b n = (omega (arith, b, length-append (y ∷ l) (x ∷ [])), n)

  -- a child more at the lowest level keeps the order
  pub orderly-push : (x : C) (ls : List (List C)) → NoneFull k ls → Orderly k (push x ls)
  orderly-push x [] n = (omega (arith, two), tt)
  orderly-push x (l ∷ ls) n = orderly-more x l ls n.0 n.1

  none-at : (j : ℕ) (ls : List (List C)) → NoneFull k ls → length (children_at j ls) < k
  none-at j [] n = omega (arith, two)
  none-at zero (l ∷ ls) n = n.0
  none-at (suc j) (l ∷ ls) n = none-at j ls n.1

  -- the level above the lowest one has room
  pub room-above : (i : ℕ) (ls : List (List C)) → Orderly k ls → IsFirst has_children i ls → length (children_at (i + 1) ls) < k
  room-above i [] o f = absurd f
  room-above zero ([] ∷ ls) o f = absurd (true≢false (sym f))
  room-above zero ((x ∷ l) ∷ ls) o f = none-at 0 ls o.1
  room-above (suc i) ([] ∷ ls) o f = subst (λ j. length (children_at j ([] ∷ ls)) < k) (next-suc i) (room-above i ls o f.1)
  room-above (suc i) ((x ∷ l) ∷ ls) o f = absurd (true≢false f.0)

  -- where no level is full the lowest one has room
  pub room-below : (ls : List (List C)) → Orderly k ls → full_level k ls ≡ None → length (children_at 0 ls) < k
  room-below ls o e = none-at 0 ls (none-orderly ls o (full-not_found k ls e))

-- a level more below moves each one up
pub closed-suc : {C : Type 0} (over : List C → C) (i : ℕ) (l : List C) (ls : List (List C)) → closed over (suc i) (l ∷ ls) ≡ l ∷ closed over i ls
closed-suc over i l ls = ap (λ j. put_at j (over (children_at i ls)) (l ∷ set ls i [])) (sym (next-suc i))

-- a child at the lowest of some levels
pub put-push : {C : Type 0} (x : C) (ls : List (List C)) → 0 < length ls → put_at 0 x ls ≡ push x ls
put-push x [] l = absurd (omega (arith, l))
put-push x (m ∷ ls) l = refl

module _ {C : Type 0} (k : ℕ) (two : 2 ≤ k) (over : List C → C) where
  -- closing the lowest level keeps the order
  pub orderly-closed : (i : ℕ) (ls : List (List C)) → Orderly k ls → IsFirst has_children i ls → i + 1 < length ls → Orderly k (closed over i ls)
  orderly-closed i [] o f l = absurd f
  orderly-closed zero (m ∷ []) o f l = absurd (omega (arith, l))
  orderly-closed zero ([] ∷ m ∷ ls) o f l = absurd (true≢false (sym f))
  orderly-closed zero ((x ∷ n) ∷ m ∷ ls) o f l = orderly-push k two (over (x ∷ n)) (m ∷ ls) o.1
  orderly-closed (suc i) ([] ∷ ls) o f l = subst (Orderly k) (sym (closed-suc over i [] ls)) (orderly-closed i ls o f.1 (omega (arith, l)))
  orderly-closed (suc i) ((x ∷ m) ∷ ls) o f l = absurd (true≢false f.0)

  -- a full level closed by its index is the lowest full level closed
  pub full-closed : (i : ℕ) (ls : List (List C)) → IsFirst (is_full_level k) i ls → i + 1 < length ls → close_full k over ls ≡ Some (closed over i ls)
  full-closed i [] f l = absurd f
  full-closed zero (m ∷ []) f l = absurd (omega (arith, l))
  full-closed zero (l ∷ m ∷ ls) f b = close_full-whole k over two l (m ∷ ls) f
  full-closed (suc i) (l ∷ ls) f b = close_full-more k over two l ls f.0 ∙ (ap (option_map (λ r. l ∷ r)) (full-closed i ls f.1 (omega (arith, b))) ∙ ap (λ r. Some r) (sym (closed-suc over i l ls)))

  pub none-closed : (ls : List (List C)) → AllByRecursion (λ l. is_full_level k l ≡ false) ls → close_full k over ls ≡ None
  none-closed [] n = refl
  none-closed (l ∷ ls) n = close_full-more k over two l ls n.0 ∙ ap (option_map (λ r. l ∷ r)) (none-closed ls n.1)

  pub none-full : (ls : List (List C)) → full_level k ls ≡ None → close_full k over ls ≡ None
  none-full ls e = none-closed ls (full-not_found k ls e)

  pub below-closed : (ls : List (List C)) → NoneFull k ls → close_full k over ls ≡ None
  below-closed [] n = refl
  below-closed (l ∷ ls) n = close_full-more k over two l ls (ne_eqb (length l) k (λ e. let z : length l < k = n.0 in omega (arith, e, z))) ∙ ap (option_map (λ r. l ∷ r)) (below-closed ls n.1)
