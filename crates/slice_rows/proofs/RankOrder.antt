-- How many values of a list are lesser tells the order of its values.
use Rattle.std.proofs.Common.{◌≡◌, ℕ, zero, suc, ◌+◌, ◌<◌, ◌≤◌, Bool, true, false, cond, List, [], ◌∷◌, map, filter, length, get_or, Contains, refl, sym, ◌∙◌, ap, arith, true≢false}
use Rattle.std.proofs.lemmas.Cmp.{alike_right, nat_cmp_total, ranked, tied_itself}
use Rattle.std.specs.Ordering.{is_lt, nat_cmp, ordering_reverse}
use Rattle.std.specs.declared.cmp.Ordering.{Ordering}
use Rattle.std.specs.declared.cmp.Ordering.TheVariants.{Less, Equal, Greater}
use Rattle.fact_model.specs.declared.fact.Value.{Value}
use Rattle.fact_model.specs.declared.fact.Value.TheVariants.{Word, Number}
use Rattle.fact_model.specs.Value.{value_cmp}
use Rattle.fact_model.proofs.ValueOrder.{value-total}
use Rattle.slice_rows.specs.Ranks.{lesser}

-- ---- numbers

pub less-told : (x y : ℕ) → x < y → nat_cmp x y ≡ Less
less-told x y low = by (nat_cmp x y) refl
  where
    by : (r : Ordering) → r ≡ nat_cmp x y → r ≡ Less
    by Less is = refl
    by Equal is = let same : x ≡ y = ranked x y Equal is in absurd (omega arith)
    by Greater is = let more : y < x = ranked x y Greater is in absurd (omega arith)

pub greater-told : (x y : ℕ) → y < x → nat_cmp x y ≡ Greater
greater-told x y low = by (nat_cmp x y) refl
  where
    by : (r : Ordering) → r ≡ nat_cmp x y → r ≡ Greater
    by Less is = let less : x < y = ranked x y Less is in absurd (omega arith)
    by Equal is = let same : x ≡ y = ranked x y Equal is in absurd (omega arith)
    by Greater is = refl

equal-told : (x y : ℕ) → x ≡ y → nat_cmp x y ≡ Equal
equal-told x y is = ap (λ (z : ℕ). nat_cmp z y) is ∙ tied_itself nat_cmp_total y

pub shifted : (k m n : ℕ) → nat_cmp (k + m) (k + n) ≡ nat_cmp m n
shifted k m n = by (nat_cmp m n) refl
  where
    by : (r : Ordering) → r ≡ nat_cmp m n → nat_cmp (k + m) (k + n) ≡ r
    by Less is = let less : m < n = ranked m n Less is in less-told (k + m) (k + n) (omega arith)
    by Equal is = let same : m ≡ n = ranked m n Equal is in equal-told (k + m) (k + n) (omega arith)
    by Greater is = let more : n < m = ranked m n Greater is in greater-told (k + m) (k + n) (omega arith)

-- ---- how many pass a test

grow : {X : Type 0} (a b : Bool) (x : X) (xs ys : List X) → (a ≡ true → b ≡ true) → length xs ≤ length ys → length (cond a (x ∷ xs) xs) ≤ length (cond b (x ∷ ys) ys)
grow true true x xs ys to most = omega arith
grow true false x xs ys to most = absurd (true≢false (sym (to refl)))
grow false true x xs ys to most = omega arith
grow false false x xs ys to most = most

grow-less : {X : Type 0} (a b : Bool) (x : X) (xs ys : List X) → (a ≡ true → b ≡ true) → length xs < length ys → length (cond a (x ∷ xs) xs) < length (cond b (x ∷ ys) ys)
grow-less true true x xs ys to most = omega arith
grow-less true false x xs ys to most = absurd (true≢false (sym (to refl)))
grow-less false true x xs ys to most = omega arith
grow-less false false x xs ys to most = most

grow-here : {X : Type 0} (a b : Bool) (x : X) (xs ys : List X) → a ≡ false → b ≡ true → length xs ≤ length ys → length (cond a (x ∷ xs) xs) < length (cond b (x ∷ ys) ys)
grow-here true b x xs ys fails passes most = absurd (true≢false fails)
grow-here false true x xs ys fails passes most = omega arith
grow-here false false x xs ys fails passes most = absurd (true≢false (sym passes))

module _ {X : Type 0} (p q : X → Bool) (to : (x : X) → p x ≡ true → q x ≡ true) where
  no-more : (xs : List X) → length (filter p xs) ≤ length (filter q xs)
  no-more [] = omega arith
  no-more (x ∷ xs) = grow (p x) (q x) x (filter p xs) (filter q xs) (to x) (no-more xs)

  -- fewer, where one passes the second test alone
  fewer : (xs : List X) (x : X) (k : ℕ) → k < length xs → get_or xs k x ≡ x → p x ≡ false → q x ≡ true → length (filter p xs) < length (filter q xs)
  fewer [] x k low at fails passes = absurd (omega arith)
  fewer (y ∷ ys) x zero low at fails passes = grow-here (p y) (q y) y (filter p ys) (filter q ys) (ap p at ∙ fails) (ap q at ∙ passes) (no-more ys)
  fewer (y ∷ ys) x (suc k) low at fails passes = grow-less (p y) (q y) y (filter p ys) (filter q ys) (to y) (fewer ys x k (omega arith) at fails passes)

all-pass : {X : Type 0} (xs : List X) → length (filter (λ x. true) xs) ≡ length xs
all-pass [] = refl
all-pass (x ∷ xs) = ap suc (all-pass xs)

-- those in front pass, and fails others
pub front-passes : {X : Type 0} (p : X → Bool) (xs : List X) (i : ℕ) (d : X) → i ≤ length xs → ((j : ℕ) → j < i → p (get_or xs j d) ≡ true)
    → ((j : ℕ) → i ≤ j → j < length xs → p (get_or xs j d) ≡ false) → length (filter p xs) ≡ i
front-passes p [] i d most passes fails = omega arith
front-passes p (x ∷ xs) zero d most passes fails =
    (λ k. length (cond (fails 0 (omega arith) (omega arith) k) (x ∷ filter p xs) (filter p xs)))
    ∙ front-passes p xs zero d (omega arith) (λ j low. absurd (omega arith)) (λ j from low. fails (suc j) (omega arith) (omega arith))
front-passes p (x ∷ xs) (suc i) d most passes fails =
    (λ k. length (cond (passes 0 (omega arith) k) (x ∷ filter p xs) (filter p xs)))
    ∙ ap suc (front-passes p xs i d (omega arith) (λ j low. passes (suc j) (omega arith)) (λ j from low. fails (suc j) (omega arith) (omega arith)))

pub filter-mapped : {X Y : Type 0} (f : X → Y) (q : Y → Bool) (xs : List X) → length (filter q (map f xs)) ≡ length (filter (λ x. q (f x)) xs)
filter-mapped f q [] = refl
filter-mapped f q (x ∷ xs) =
    let some = filter (λ x. q (f x)) xs in
    let rest = filter q (map f xs) in
    elim (q (f x)) as (λ (t : Bool). length (cond t (f x ∷ rest) rest) ≡ length (cond t (x ∷ some) some))
    [ true ↦ ap suc (filter-mapped f q xs) | false ↦ filter-mapped f q xs ]

-- ---- lesser values

pub only-less : (r : Ordering) → is_lt r ≡ true → r ≡ Less
only-less Less h = refl
only-less Equal h = absurd (true≢false (sym h))
only-less Greater h = absurd (true≢false (sym h))

module _ (vs : List Value) where
  -- a value that is there has fewer lesser ones than a greater value
  fewer-lesser : (v w : Value) → value_cmp v w ≡ Less → Contains vs v → lesser vs v < lesser vs w
  fewer-lesser v w less there = fewer (λ u. is_lt (value_cmp u v)) (λ u. is_lt (value_cmp u w))
      (λ u h. ap is_lt (value-total.trans u v w (only-less (value_cmp u v) h) less))
      vs v there.0 there.1 there.2 (ap is_lt (tied_itself value-total v)) (ap is_lt less)

  not-all-lesser : (v : Value) → Contains vs v → lesser vs v < length vs
  not-all-lesser v there =
      let some = fewer (λ u. is_lt (value_cmp u v)) (λ u. true) (λ u h. refl) vs v there.0 there.1 there.2 (ap is_lt (tied_itself value-total v)) refl in
      omega (arith, some, all-pass vs)

  -- no value has more than there are
  pub few-lesser : (v : Value) → lesser vs v ≤ length vs
  few-lesser v = let some = no-more (λ u. is_lt (value_cmp u v)) (λ u. true) (λ u h. refl) vs in omega (arith, some, all-pass vs)

  -- equal values have equally many
  pub same-lesser : (v w : Value) → value_cmp v w ≡ Equal → lesser vs v ≡ lesser vs w
  same-lesser v w tied = λ i. length (filter (λ u. is_lt (alike_right value-total v w u tied i)) vs)

  -- the rank of a value: a text's by the lesser ones, and a number's behind all of them
  abbrev pub rank_in : Value → ℕ
  rank_in (Word t) = lesser vs (Word t)
  rank_in (Number n) = length vs + n

  -- the value is there, where it is a text
  abbrev pub IsThere : Value → Type 0
  IsThere (Word t) = Contains vs (Word t)
  IsThere (Number n) = Unit {0}

  pub rank-tells : (v w : Value) → IsThere v → IsThere w → nat_cmp (rank_in v) (rank_in w) ≡ value_cmp v w
  rank-tells (Word s) (Word t) one other = by (value_cmp (Word s) (Word t)) refl
    where
      by : (r : Ordering) → value_cmp (Word s) (Word t) ≡ r → nat_cmp (lesser vs (Word s)) (lesser vs (Word t)) ≡ r
      by Less is = less-told (lesser vs (Word s)) (lesser vs (Word t)) (fewer-lesser (Word s) (Word t) is one)
      by Equal is = equal-told (lesser vs (Word s)) (lesser vs (Word t)) (same-lesser (Word s) (Word t) is)
      by Greater is = greater-told (lesser vs (Word s)) (lesser vs (Word t))
          (fewer-lesser (Word t) (Word s) (value-total.antisymm (Word t) (Word s) ∙ ap ordering_reverse is) other)
  rank-tells (Word s) (Number n) one other = let few = not-all-lesser (Word s) one in less-told (lesser vs (Word s)) (length vs + n) (omega (arith, few))
  rank-tells (Number m) (Word t) one other = let few = not-all-lesser (Word t) other in greater-told (length vs + m) (lesser vs (Word t)) (omega (arith, few))
  rank-tells (Number m) (Number n) one other = shifted (length vs) m n
