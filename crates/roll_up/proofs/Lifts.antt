-- The values of lifted facts, and of the keys of base rows.
use Rattle.std.proofs.Common.{◌≡◌, ℕ, zero, suc, ◌+◌, ◌-◌, ◌<◌, ◌≤◌, ◌==◌, ◌||◌, Bool, true, false, cond, List, [], ◌∷◌, ◌++◌, map, length, filter, get_or, nat_lt, nat_le, refl, sym, ◌∙◌, ap, subst, arith, true≢false, inl, inr}
use Rattle.std.proofs.lemmas.Bool.{cases_Bool, cases_lt, eqb-true}
use Rattle.std.proofs.lemmas.Bool.Decides.{nat_tests}
use Rattle.std.specs.List.{AllByRecursion, range_with_len}
use Rattle.fact_model.specs.Fact.{value_at}
use Rattle.fact_model.specs.declared.fact.Fact.{Fact}
use Rattle.fact_model.specs.declared.fact.Value.{Value}
use Rattle.fact_model.specs.declared.fact.Value.TheVariants.{Word, Number}
use Rattle.spec_points.specs.Agree.{among}
use Rattle.roll_up.specs.Bases.{source_of}
use Rattle.roll_up.specs.Lifted.{value_for, lifted_at}
use Rattle.roll_up.specs.Levels.{lift}
use Rattle.roll_up.specs.Parents.{parent_of}
use Rattle.roll_up.specs.declared.level.Level.{Level}

-- ---- items behind others

pub get_or-front : {X : Type 0} (xs ys : List X) (i : ℕ) (d : X) → i < length xs → get_or (xs ++ ys) i d ≡ get_or xs i d
get_or-front [] ys i d l = absurd (omega arith)
get_or-front (x ∷ xs) ys zero d l = refl
get_or-front (x ∷ xs) ys (suc i) d l = get_or-front xs ys i d (omega arith)

get_or-behind : {X : Type 0} (xs ys : List X) (i : ℕ) (d : X) → length xs ≤ i → get_or (xs ++ ys) i d ≡ get_or ys (i - length xs) d
get_or-behind [] ys i d l = ap (λ k. get_or ys k d) (omega arith)
get_or-behind (x ∷ xs) ys zero d l = absurd (omega arith)
get_or-behind (x ∷ xs) ys (suc i) d l = get_or-behind xs ys i d (omega arith) ∙ ap (λ k. get_or ys k d) (let e : i - length xs ≡ suc i - suc (length xs) = omega arith in e)

pub lt-true : (m n : ℕ) → m < n → nat_lt m n ≡ true
lt-true m n l = grind (arith, nat_tests)

pub lt-false : (m n : ℕ) → n ≤ m → nat_lt m n ≡ false
lt-false m n l = grind (arith, nat_tests)

pub le-true : (m n : ℕ) → m ≤ n → nat_le m n ≡ true
le-true m n l = grind (arith, nat_tests)

pub le-false : (m n : ℕ) → n < m → nat_le m n ≡ false
le-false m n l = grind (arith, nat_tests)

-- ---- values

module _ (n : ℕ) (levels : List Level) where
  -- the parents that values have in the levels
  abbrev parents : (ℕ → Value) → List Value
  parents at = map (λ (l : Level). Word (parent_of l.parents (at l.attr))) levels

  pub low-value : (at : ℕ → Value) (a : ℕ) → a < n → lifted_at n levels at a ≡ at a
  low-value at a l = ap (λ (b : Bool). cond b (at a) (get_or (parents at) (a - n) (Number 0))) (lt-true a n l)

  high-value : (at : ℕ → Value) (a : ℕ) → n ≤ a → lifted_at n levels at a ≡ get_or (parents at) (a - n) (Number 0)
  high-value at a l = ap (λ (b : Bool). cond b (at a) (get_or (parents at) (a - n) (Number 0))) (lt-false a n l)

  -- the value of a lifted fact
  pub lifted-value : (x : Fact) → length x.values ≡ n → (a : ℕ) → value_at (lift levels x) a ≡ lifted_at n levels (value_at x) a
  lifted-value x w a = elim (cases_lt a n) [
    | inl l ↦ get_or-front x.values (parents (value_at x)) a (Number 0) (omega (arith, l, w)) ∙ sym (low-value (value_at x) a l)
    | inr g ↦ get_or-behind x.values (parents (value_at x)) a (Number 0) (omega (arith, g, w)) ∙ (ap (λ k. get_or (parents (value_at x)) (a - k) (Number 0)) w ∙ sym (high-value (value_at x) a g))
  ]

-- a level's parents are the same where its attribute's values are
same-parents : (f g : ℕ → Value) (levels : List Level) (i : ℕ) (d : Value) → f (get_or (map (λ (l : Level). l.attr) levels) i 0) ≡ g (get_or (map (λ (l : Level). l.attr) levels) i 0)
    → get_or (map (λ (l : Level). Word (parent_of l.parents (f l.attr))) levels) i d ≡ get_or (map (λ (l : Level). Word (parent_of l.parents (g l.attr))) levels) i d
same-parents f g [] i d h = refl
same-parents f g (l ∷ levels) zero d h = ap (λ v. Word (parent_of l.parents v)) h
same-parents f g (l ∷ levels) (suc i) d h = same-parents f g levels i d h

module _ (n : ℕ) (levels : List Level) where
  pub low-source : (a : ℕ) → a < n → source_of n levels a ≡ a
  low-source a l = ap (λ (b : Bool). cond b a (get_or (map (λ (l : Level). l.attr) levels) (a - n) 0)) (lt-true a n l)

  pub high-source : (a : ℕ) → n ≤ a → source_of n levels a ≡ get_or (map (λ (l : Level). l.attr) levels) (a - n) 0
  high-source a l = ap (λ (b : Bool). cond b a (get_or (map (λ (l : Level). l.attr) levels) (a - n) 0)) (lt-false a n l)

  -- values are lifted alike where those that they come from are the same
  pub lifted-same : (f g : ℕ → Value) (a : ℕ) → f (source_of n levels a) ≡ g (source_of n levels a) → lifted_at n levels f a ≡ lifted_at n levels g a
  lifted-same f g a h = elim (cases_lt a n) [
    | inl l ↦ low-value n levels f a l ∙ (subst (λ b. f b ≡ g b) (low-source a l) h ∙ sym (low-value n levels g a l))
    | inr p ↦ high-value n levels f a p ∙ (same-parents f g levels (a - n) (Number 0) (subst (λ b. f b ≡ g b) (high-source a p) h) ∙ sym (high-value n levels g a p))
  ]

-- the value of a grouped attribute in a key
pub value-of-key : (f : ℕ → Value) (group : List ℕ) (a : ℕ) → among group a ≡ true → value_for group (map f group) a ≡ f a
value-of-key f [] a m = absurd (true≢false (sym m))
value-of-key f (g ∷ group) a m = elim (cases_Bool (g == a)) [
  | inl e ↦ ap (λ (b : Bool). cond b (f g) (value_for group (map f group) a)) e ∙ ap f (eqb-true g a e)
  | inr e ↦ ap (λ (b : Bool). cond b (f g) (value_for group (map f group) a)) e ∙ value-of-key f group a (ap (λ (b : Bool). b || among group a) (sym e) ∙ m)
]

-- ---- the grouped attributes of the base slice

pub among-cons : (v : ℕ) (view : List ℕ) (a : ℕ) → among view a ≡ true → among (v ∷ view) a ≡ true
among-cons v view a h = elim (v == a) as (λ b. (b || among view a) ≡ true) [ true ↦ refl | false ↦ h ]

pub among-here : (v : ℕ) (view : List ℕ) → among (v ∷ view) v ≡ true
among-here v view = let e : (v == v) ≡ true = grind (arith, nat_tests) in ap (λ b. b || among view v) e

-- the attributes from one on that pass a test
pub among-range : (p : ℕ → Bool) (from count a : ℕ) → p a ≡ true → from ≤ a → a < from + count → among (filter p (range_with_len from count)) a ≡ true
among-range p from zero a h l u = absurd (omega arith)
among-range p from (suc count) a h l u = elim (cases_lt from a) [
  | inl below ↦ skipped (p from) (among-range p (from + 1) count a h (omega arith) (omega arith))
  | inr above ↦ (let e : from ≡ a = omega arith in subst (λ k. among (filter p (range_with_len k (suc count))) a ≡ true) (sym e) (taken (p a) h))
]
  where
    skipped : (b : Bool) → among (filter p (range_with_len (from + 1) count)) a ≡ true → among (cond b (from ∷ filter p (range_with_len (from + 1) count)) (filter p (range_with_len (from + 1) count))) a ≡ true
    skipped true m = among-cons from (filter p (range_with_len (from + 1) count)) a m
    skipped false m = m

    taken : (b : Bool) → b ≡ true → among (cond b (a ∷ filter p (range_with_len (a + 1) count)) (filter p (range_with_len (a + 1) count))) a ≡ true
    taken true e = among-here a (filter p (range_with_len (a + 1) count))
    taken false e = absurd (true≢false (sym e))

-- ---- the sources

pub among-left : (f : ℕ → ℕ) (group ys : List ℕ) → AllByRecursion (λ a. among (map f group ++ ys) (f a) ≡ true) group
among-left f [] ys = tt
among-left f (a ∷ group) ys = (among-here (f a) (map f group ++ ys), more group (among-left f group ys))
  where
    more : (vs : List ℕ) → AllByRecursion (λ b. among (map f group ++ ys) (f b) ≡ true) vs → AllByRecursion (λ b. among (map f (a ∷ group) ++ ys) (f b) ≡ true) vs
    more [] h = tt
    more (b ∷ vs) h = (among-cons (f a) (map f group ++ ys) (f b) h.0, more vs h.1)

pub among-right : (xs ys : List ℕ) (a : ℕ) → among ys a ≡ true → among (xs ++ ys) a ≡ true
among-right [] ys a h = h
among-right (x ∷ xs) ys a h = among-cons x (xs ++ ys) a (among-right xs ys a h)
