-- Properties of all members of a list.
use Rattle.std.proofs.Common.{◌≡◌, ℕ, Bool, true, false, cond, List, [], ◌∷◌, ◌++◌, filter, refl, sym, ◌∙◌, ap, subst, arith, true≢false, inl, inr, ◌==◌, ◌||◌}
use Rattle.std.proofs.lemmas.Bool.{cases_Bool, eqb-true, eq-eqb, and_parts, and_from}
use Rattle.std.proofs.lemmas.List.Elements.{All-nil, All-cons, All-tail}
use Rattle.std.specs.List.{AllByRecursion, list_all, All}
use Rattle.spec_points.specs.Agree.{among}
use Rattle.spec_points.specs.Points.{View}

-- the property of all items of both lists
pub every-append : {X : Type 0} (P : X → Type 0) (xs ys : List X) → AllByRecursion P xs → AllByRecursion P ys → AllByRecursion P (xs ++ ys)
every-append P [] ys a b = b
every-append P (x ∷ xs) ys a b = (a.0, every-append P xs ys a.1 b)

pub every-left : {X : Type 0} (P : X → Type 0) (xs ys : List X) → AllByRecursion P (xs ++ ys) → AllByRecursion P xs
every-left P [] ys a = tt
every-left P (x ∷ xs) ys a = (a.0, every-left P xs ys a.1)

pub every-right : {X : Type 0} (P : X → Type 0) (xs ys : List X) → AllByRecursion P (xs ++ ys) → AllByRecursion P ys
every-right P [] ys a = a
every-right P (x ∷ xs) ys a = every-right P xs ys a.1

-- it is kept by a filter
pub every-filter : {X : Type 0} (P : X → Type 0) (p : X → Bool) (xs : List X) → AllByRecursion P xs → AllByRecursion P (filter p xs)
every-filter P p [] a = tt
every-filter P p (x ∷ xs) a = elim (p x) as (λ b. AllByRecursion P (cond b (x ∷ filter p xs) (filter p xs))) [ true ↦ (a.0, every-filter P p xs a.1) | false ↦ every-filter P p xs a.1 ]

-- from one property to another
pub every-map : {X : Type 0} (P S : X → Type 0) → ((x : X) → P x → S x) → (xs : List X) → AllByRecursion P xs → AllByRecursion S xs
every-map P S f [] a = tt
every-map P S f (x ∷ xs) a = (f x a.0, every-map P S f xs a.1)

-- tests and keys that agree on the members
pub filter-same : {X : Type 0} (p q : X → Bool) (xs : List X) → AllByRecursion (λ x. p x ≡ q x) xs → filter p xs ≡ filter q xs
filter-same p q [] h = refl
filter-same p q (x ∷ xs) h = (λ i. cond (h.0 i) (x ∷ filter-same p q xs h.1 i) (filter-same p q xs h.1 i))

-- two properties at once
pub every-both : {X : Type 0} (P S : X → Type 0) (xs : List X) → AllByRecursion P xs → AllByRecursion S xs → AllByRecursion (λ x. P x × S x) xs
every-both P S [] a b = tt
every-both P S (x ∷ xs) a b = ((a.0, b.0), every-both P S xs a.1 b.1)

-- a property of every item there could be
pub every-one : {X : Type 0} (P : X → Type 0) → ((x : X) → P x) → (xs : List X) → AllByRecursion P xs
every-one P f [] = tt
every-one P f (x ∷ xs) = (f x, every-one P f xs)

-- by a test
pub all-every : {X : Type 0} (p : X → Bool) (xs : List X) → list_all p xs ≡ true → AllByRecursion (λ x. p x ≡ true) xs
all-every p [] h = tt
all-every p (x ∷ xs) h = let q = and_parts (p x) (list_all p xs) h in (q.0, all-every p xs q.1)

pub list_all-every : {X : Type 0} (p : X → Bool) (xs : List X) → AllByRecursion (λ x. p x ≡ true) xs → list_all p xs ≡ true
list_all-every p [] h = refl
list_all-every p (x ∷ xs) h = and_from (p x) (list_all p xs) h.0 (list_all-every p xs h.1)

in-more : (v : ℕ) (view : View) (a : ℕ) → among view a ≡ true → among (v ∷ view) a ≡ true
in-more v view a h = elim (v == a) as (λ b. (b || among view a) ≡ true) [ true ↦ refl | false ↦ h ]

-- the property of each attribute of a view
pub every-in : (P : ℕ → Type 0) (view : View) → ((a : ℕ) → among view a ≡ true → P a) → AllByRecursion P view
every-in P [] f = tt
every-in P (v ∷ view) f = (f v (ap (λ (b : Bool). b || among view v) (eq-eqb v v refl)), every-in P view (λ a h. f a (in-more v view a h)))

pub in-every : (P : ℕ → Type 0) (view : View) (a : ℕ) → AllByRecursion P view → among view a ≡ true → P a
in-every P [] a h m = absurd (true≢false (sym m))
in-every P (v ∷ view) a h m = elim (cases_Bool (v == a)) [
  | inl e ↦ subst P (eqb-true v a e) h.0
  | inr e ↦ in-every P view a h.1 (ap (λ (b : Bool). b || among view a) (sym e) ∙ m)
]

-- a property of each item, said of each place
pub every-from_All : {X : Type 0} (P : X → Type 0) (xs : List X) → All P xs → AllByRecursion P xs
every-from_All P [] h = tt
every-from_All P (x ∷ xs) h = (h 0 x (omega arith), every-from_All P xs (All-tail P x xs h))

pub All-from_every : {X : Type 0} (P : X → Type 0) (xs : List X) → AllByRecursion P xs → All P xs
All-from_every P [] h = All-nil P
All-from_every P (x ∷ xs) h = All-cons P x xs h.0 (All-from_every P xs h.1)

pub All-map : {X : Type 0} (P S : X → Type 0) → ((x : X) → P x → S x) → (xs : List X) → All P xs → All S xs
All-map P S f xs h = λ k d low. f _ (h k d low)
