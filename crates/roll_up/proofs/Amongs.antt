-- An item that is found in a list.
use Rattle.std.proofs.Common.{◌≡◌, ℕ, zero, suc, ◌+◌, ◌<◌, ◌≤◌, ◌==◌, ◌&&◌, min, Bool, true, false, cond, List, [], ◌∷◌, ◌++◌, map, filter, length, get_or, drop, refl, sym, ◌∙◌, ap, subst, arith, inl, inr}
use Rattle.std.proofs.lemmas.Bool.{cases_Bool, eqb-true, eq-eqb}
use Rattle.fact_model.specs.declared.fact.Value.TheVariants.{Number}
use Rattle.fact_model.specs.Value.{Key}
use Rattle.std.specs.List.{list_all, range_with_len}
use Rattle.row_fold.specs.Lent.{value_of}
use Rattle.row_fold.specs.declared.lent.LentValue.{LentValue}
use Rattle.spec_points.specs.Agree.{among}
use Rattle.roll_up.specs.Lifted.{value_for}
use Rattle.roll_up.proofs.Lifts.{among-cons, among-here}

-- what some item that passes stands for
pub found-among : {X : Type 0} (f : X → ℕ) (p : X → Bool) (xs : List X) (i a : ℕ) (x : X) → i < length xs → x ≡ get_or xs i x → p x ≡ true → f x ≡ a → among (map f (filter p xs)) a ≡ true
found-among f p [] i a x l is passes e = absurd (omega arith)
found-among f p (y ∷ ys) zero a x l is passes e = by (p y) (ap p (sym is) ∙ passes)
  where
    by : (b : Bool) → b ≡ true → among (map f (cond b (y ∷ filter p ys) (filter p ys))) a ≡ true
    by true q = subst (λ k. among (k ∷ map f (filter p ys)) a ≡ true) (sym (ap f (sym is) ∙ e)) (among-here a (map f (filter p ys)))
    by false q = cc q
found-among f p (y ∷ ys) (suc i) a x l is passes e = by (p y) (found-among f p ys i a x (omega arith) is passes e)
  where
    by : (b : Bool) → among (map f (filter p ys)) a ≡ true → among (map f (cond b (y ∷ filter p ys) (filter p ys))) a ≡ true
    by true rest = among-cons (f y) (map f (filter p ys)) a rest
    by false rest = rest

filter-every : {X : Type 0} (xs : List X) → filter (λ x. true) xs ≡ xs
filter-every [] = refl
filter-every (x ∷ xs) = ap (λ r. x ∷ r) (filter-every xs)

-- what some item stands for
pub found-any : {X : Type 0} (f : X → ℕ) (xs : List X) (i a : ℕ) (x : X) → i < length xs → x ≡ get_or xs i x → f x ≡ a → among (map f xs) a ≡ true
found-any f xs i a x l is e = ap (λ ys. among (map f ys) a) (sym (filter-every xs)) ∙ found-among f (λ x. true) xs i a x l is refl e

-- the same of a number by its place
pub found-number : (f : ℕ → ℕ) (xs : List ℕ) (i a : ℕ) → i < length xs → f (get_or xs i 0) ≡ a → among (map f xs) a ≡ true
found-number f [] i a l e = absurd (omega arith)
found-number f (y ∷ ys) zero a l e = subst (λ k. among (k ∷ map f ys) a ≡ true) (sym e) (among-here a (map f ys))
found-number f (y ∷ ys) (suc i) a l e = among-cons (f y) (map f ys) a (found-number f ys i a (omega arith) e)

-- an item that passes a test fails another
pub one-fails : {X : Type 0} (p q : X → Bool) (xs : List X) (i : ℕ) (x : X) → i < length xs → x ≡ get_or xs i x → p x ≡ true → q x ≡ false → list_all q (filter p xs) ≡ false
one-fails p q [] i x l is a b = absurd (omega arith)
one-fails p q (y ∷ ys) zero x l is a b = by (p y) (ap p (sym is) ∙ a)
  where
    by : (c : Bool) → c ≡ true → list_all q (cond c (y ∷ filter p ys) (filter p ys)) ≡ false
    by true e = ap (λ d. d && list_all q (filter p ys)) (ap q (sym is) ∙ b)
    by false e = cc e
one-fails p q (y ∷ ys) (suc i) x l is a b = by (p y) (one-fails p q ys i x (omega arith) is a b)
  where
    by : (c : Bool) → list_all q (filter p ys) ≡ false → list_all q (cond c (y ∷ filter p ys) (filter p ys)) ≡ false
    by true rest = ap (λ d. q y && d) rest ∙ and-false (q y)
      where
        and-false : (d : Bool) → (d && false) ≡ false
        and-false true = refl
        and-false false = refl
    by false rest = rest

-- the attributes from 0 on that pass, and one more
pub range-push : (p : ℕ → Bool) (from n : ℕ) → filter p (range_with_len from (suc n)) ≡ filter p (range_with_len from n) ++ cond (p (from + n)) ((from + n) ∷ []) []
range-push p from zero = (let e : from ≡ from + 0 = omega arith in ap (λ k. cond (p k) (k ∷ []) []) e)
range-push p from (suc n) = by (p from) (range-push p (from + 1) n)
  where
    at : from + 1 + n ≡ from + suc n
    at = omega arith

    by : (c : Bool) → filter p (range_with_len (from + 1) (suc n)) ≡ filter p (range_with_len (from + 1) n) ++ cond (p (from + 1 + n)) ((from + 1 + n) ∷ []) []
        → cond c (from ∷ filter p (range_with_len (from + 1) (suc n))) (filter p (range_with_len (from + 1) (suc n)))
        ≡ cond c (from ∷ filter p (range_with_len (from + 1) n)) (filter p (range_with_len (from + 1) n)) ++ cond (p (from + suc n)) ((from + suc n) ∷ []) []
    by true rest = ap (λ r. from ∷ r) (rest ∙ ap (λ k. filter p (range_with_len (from + 1) n) ++ cond (p k) (k ∷ []) []) at)
    by false rest = rest ∙ ap (λ k. filter p (range_with_len (from + 1) n) ++ cond (p k) (k ∷ []) []) at

-- a source more
pub source-more : (p : ℕ → Bool) (n : ℕ) (old new : List ℕ) → old ≡ filter p (range_with_len 0 n) → new ≡ old ++ cond (p n) (n ∷ []) [] → new ≡ filter p (range_with_len 0 (n + 1))
source-more p n old new so_far more =
    let next : suc n ≡ n + 1 = omega arith in
    let same : 0 + n ≡ n = omega arith in
    more ∙ (ap (λ r. r ++ cond (p n) (n ∷ []) []) so_far ∙ (sym (range-push p 0 n ∙ ap (λ k. filter p (range_with_len 0 n) ++ cond (p k) (k ∷ []) []) same) ∙ ap (λ k. filter p (range_with_len 0 k)) next))

-- ---- a key's value

past-other : (group : List ℕ) (key : Key) (i a : ℕ) → i < length group → i < length key → (get_or group i 0 ≡ a → ⊥) → value_for (drop i group) (drop i key) a ≡ value_for (drop (suc i) group) (drop (suc i) key) a
past-other [] key i a l m other = absurd (omega arith)
past-other (h ∷ group) [] i a l m other = absurd (omega arith)
past-other (h ∷ group) (v ∷ key) zero a l m other = elim (cases_Bool (h == a)) [
  | inl e ↦ absurd (other (eqb-true h a e))
  | inr e ↦ ap (λ (b : Bool). cond b v (value_for group key a)) e
]
past-other (h ∷ group) (v ∷ key) (suc i) a l m other = past-other group key i a (omega arith) (omega arith) other

-- past an attribute that is another
pub value-past : (group : List ℕ) (key : Key) (i a most : ℕ) → i < most → most ≡ min (length group) (length key) → (get_or group i 0 ≡ a → ⊥)
    → value_for group key a ≡ value_for (drop i group) (drop i key) a → value_for group key a ≡ value_for (drop (i + 1) group) (drop (i + 1) key) a
value-past group key i a most l is other so_far =
    let next : suc i ≡ i + 1 = omega arith in
    so_far ∙ (past-other group key i a (omega (arith, l, is)) (omega (arith, l, is)) other ∙ ap (λ k. value_for (drop k group) (drop k key) a) next)

-- past all attributes, or all values
pub value-none : (group : List ℕ) (key : Key) (i a : ℕ) → min (length group) (length key) ≤ i → value_for (drop i group) (drop i key) a ≡ Number 0
value-none [] key i a l = by i
  where
    by : (i : ℕ) → value_for (drop i []) (drop i key) a ≡ Number 0
    by zero = refl
    by (suc i) = refl
value-none (g ∷ group) [] zero a l = refl
value-none (g ∷ group) [] (suc i) a l = none (drop i group)
  where
    none : (gs : List ℕ) → value_for gs [] a ≡ Number 0
    none [] = refl
    none (g ∷ gs) = refl
value-none (g ∷ group) (v ∷ key) zero a l = absurd (omega arith)
value-none (g ∷ group) (v ∷ key) (suc i) a l = value-none group key i a (omega arith)

-- past all, by the end of the loop
pub value-end : (group : List ℕ) (key : Key) (i a most : ℕ) → most ≤ i → most ≡ min (length group) (length key) → value_for group key a ≡ value_for (drop i group) (drop i key) a → Number 0 ≡ value_for group key a
value-end group key i a most l is so_far = sym (so_far ∙ value-none group key i a (omega (arith, l, is)))

here : (group : List ℕ) (key : List LentValue) (i a : ℕ) (d : LentValue) → i < length group → i < length key → get_or group i 0 ≡ a → value_for (drop i group) (drop i (map value_of key)) a ≡ value_of (get_or key i d)
here [] key i a d l m e = absurd (omega arith)
here (h ∷ group) [] i a d l m e = absurd (omega arith)
here (h ∷ group) (v ∷ key) zero a d l m e = ap (λ (b : Bool). cond b (value_of v) (value_for group (map value_of key) a)) (eq-eqb h a e)
here (h ∷ group) (v ∷ key) (suc i) a d l m e = here group key i a d (omega arith) (omega arith) e

-- where the attribute is found, its value is
pub value-here : (group : List ℕ) (key : List LentValue) (i a most : ℕ) (d : LentValue) → i < most → most ≡ min (length group) (length key) → get_or group i 0 ≡ a
    → value_for group (map value_of key) a ≡ value_for (drop i group) (drop i (map value_of key)) a → value_of (get_or key i d) ≡ value_for group (map value_of key) a
value-here group key i a most d l is e so_far = sym (so_far ∙ here group key i a d (omega (arith, l, is)) (omega (arith, l, is)) e)
