-- The last coordinates of a view's points do not fall.
use Rattle.std.proofs.Common.{◌≡◌, inl, inr, ℕ, zero, suc, ◌<◌, ◌≤◌, ◌&&◌, true, List, [], ◌∷◌, ◌++◌, get_or, refl, sym, ◌∙◌, subst, arith}
use Rattle.std.specs.Prelude.{slice_index}
use Rattle.std.specs.Cmp.{ranks}
use Rattle.std.specs.List.{AllByRecursion}
use Rattle.std.specs.Ordering.{nat_cmp, ordering_then, is_lt, MatchOrdering}
use Rattle.std.specs.declared.cmp.Ordering.{Ordering}
use Rattle.std.specs.declared.cmp.Ordering.TheVariants.{Less, Equal, Greater}
use Rattle.std.proofs.lemmas.Bool.{and_from, and_parts, cases_eq}
use Rattle.cube_point.specs.Points.{point_cmp}
use Rattle.cube_point.specs.declared.point.Entry.{Entry}
use Rattle.cube_point.specs.declared.point.Shape.{Shape}
use Rattle.cube_point.proofs.PointOrder.{chain, cmp-down, cmp_down}
use Rattle.page_entry.specs.Entries.{ascend, entry_before}
use Rattle.page_entry.specs.Stored.{FitsLeaf}
use Rattle.spec_leaves.proofs.Touched.{Sorted, every-map}

-- the first does not come after the second
abbrev IsNotAfter : Ordering → Type 0
IsNotAfter r = r ≡ Greater → ⊥

compared-first : (x y : ℕ) (r : Ordering) → IsNotAfter (ordering_then (nat_cmp x y) r) → (x ≤ y) × (x ≡ y → IsNotAfter r)
compared-first x y r = by (nat_cmp x y) (ranks x y)
  where
    by : (s : Ordering) → MatchOrdering s (x < y) (x ≡ y) (y < x) → IsNotAfter (ordering_then s r) → (x ≤ y) × (x ≡ y → IsNotAfter r)
    by Less m h = (omega (arith, m), λ is. absurd (omega (arith, m, is)))
    by Equal m h = (omega (arith, m), λ is. h)
    by Greater m h = absurd (h refl)

-- where the coordinates past a dimension are the same, those in it do not fall
last-up : (count j : ℕ) (a b : List ℕ) → j < count → ((i : ℕ) → j < i → i < count → get_or a i 0 ≡ get_or b i 0) → IsNotAfter (cmp_down count a b) → get_or a j 0 ≤ get_or b j 0
last-up zero j a b few same up = absurd (omega (arith, few))
last-up (suc n) j a b few same up =
    let one = compared-first (get_or a n 0) (get_or b n 0) (cmp_down n a b) up in
    elim (cases_eq n j) [
      | inl is ↦ subst (λ k. get_or a k 0 ≤ get_or b k 0) is one.0
      | inr other ↦ last-up n j a b (omega (arith, few, other)) (λ i past below. same i past (omega (arith, below))) (one.1 (same n (omega (arith, few, other)) (omega arith)))
    ]

less-is : (r : Ordering) → is_lt r ≡ true → r ≡ Less
less-is Less h = refl
less-is Equal h = cc
less-is Greater h = cc

module _ (shape : Shape) (j : ℕ) (few : j < 8) where
  -- an entry of the arity j + 1, as a leaf may hold it
  abbrev pub IsOf : Entry → Type 0
  IsOf e = (e.point.arity ≡ suc j) × FitsLeaf shape e

  abbrev pub last_of : Entry → ℕ
  last_of e = slice_index e.point.at j

  before-up : (e f : Entry) → IsOf e → IsOf f → entry_before e f ≡ true → last_of e ≤ last_of f
  unfolding entry_before
  before-up e f h g is =
      let less : point_cmp e.point.at f.point.at ≡ Less = less-is (point_cmp e.point.at f.point.at) is in
      let down : cmp_down 8 e.point.at f.point.at ≡ Less = cmp-down e.point.at f.point.at h.1.eight g.1.eight ∙ less in
      last-up 8 j e.point.at f.point.at few
      (λ i past below. h.1.point.unused i (omega (arith, past, h.0)) ∙ sym (g.1.point.unused i (omega (arith, past, g.0))))
      (λ after. let never : Less ≡ Greater = sym down ∙ after in cc)

  before-chain : (e f g : Entry) → entry_before e f ≡ true → entry_before f g ≡ true → entry_before e g ≡ true
  unfolding entry_before
  before-chain e f g h k = chain e.point f.point g.point h k

  rest-ascends : (x : Entry) (es : List Entry) → ascend entry_before (x ∷ es) ≡ true → ascend entry_before es ≡ true
  rest-ascends x [] h = refl
  rest-ascends x (y ∷ es) h = (and_parts (entry_before x y) (ascend entry_before (y ∷ es)) h).1

  first-before : (x : Entry) (es : List Entry) → ascend entry_before (x ∷ es) ≡ true → AllByRecursion (λ e. entry_before x e ≡ true) es
  first-before x [] h = tt
  first-before x (y ∷ es) h =
      let both = and_parts (entry_before x y) (ascend entry_before (y ∷ es)) h in
      (both.0, every-map (λ e. entry_before y e ≡ true) (λ e. entry_before x e ≡ true) (λ e is. before-chain x y e both.0 is) es (first-before y es both.1))

  each-up : (x : Entry) (es : List Entry) → IsOf x → AllByRecursion IsOf es → AllByRecursion (λ e. entry_before x e ≡ true) es → AllByRecursion (λ e. last_of x ≤ last_of e) es
  each-up x [] h g is = tt
  each-up x (e ∷ es) h g is = (before-up x e h g.0 is.0, each-up x es h g.1 is.1)

  pub last-sorted : (low high : ℕ) (es : List Entry) → AllByRecursion IsOf es → ascend entry_before es ≡ true → Sorted last_of low high es
  last-sorted low high [] h order = tt
  last-sorted low high (e ∷ es) h order = (each-up e es h.0 h.1 (first-before e es order), last-sorted low high es h.1 (rest-ascends e es order))

-- a part of entries in order is in order
pub ascend-right : (xs ys : List Entry) → ascend entry_before (xs ++ ys) ≡ true → ascend entry_before ys ≡ true
ascend-right [] ys h = h
ascend-right (x ∷ []) [] h = refl
ascend-right (x ∷ []) (y ∷ ys) h = (and_parts (entry_before x y) (ascend entry_before (y ∷ ys)) h).1
ascend-right (x ∷ z ∷ xs) ys h = ascend-right (z ∷ xs) ys (and_parts (entry_before x z) (ascend entry_before ((z ∷ xs) ++ ys)) h).1

pub ascend-left : (xs ys : List Entry) → ascend entry_before (xs ++ ys) ≡ true → ascend entry_before xs ≡ true
ascend-left [] ys h = refl
ascend-left (x ∷ []) ys h = refl
ascend-left (x ∷ z ∷ xs) ys h =
    let both = and_parts (entry_before x z) (ascend entry_before ((z ∷ xs) ++ ys)) h in
    and_from (entry_before x z) (ascend entry_before (z ∷ xs)) both.0 (ascend-left (z ∷ xs) ys both.1)
