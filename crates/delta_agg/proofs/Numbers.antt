-- The numbers of places: they fit, and are in the order of the places.
use Rattle.std.proofs.Common.{◌≡◌, ℕ, ◌+◌, ◌-◌, ◌*◌, ◌<◌, ◌≤◌, ◌^◌, true, List, [], ◌∷◌, ◌++◌, length, map, drop, get_or, replicate, reverse, refl, sym, ◌∙◌, ap, subst, arith}
use Rattle.std.specs.Prelude.{◌==◌, slice_index}
use Rattle.std.specs.Cmp.{ranks, tied_itself, nat_cmp_total}
use Rattle.std.specs.Cmp.Lexicographic.{slice_cmp}
use Rattle.std.specs.List.{All, AllByRecursion}
use Rattle.std.specs.Ordering.{nat_cmp, ordering_then, is_lt, is_eq, MatchOrdering}
use Rattle.std.specs.declared.cmp.Ordering.{Ordering}
use Rattle.std.specs.declared.cmp.Ordering.TheVariants.{Less, Equal, Greater}
use Rattle.std.proofs.lemmas.List.{reverse-append, length-map, length-drop, map-append, get_or-drop, drop_more, at_drop_more, at_drop_all}
use Rattle.std.proofs.lemmas.Bool.{eq-eqb, ne_eqb}
use Rattle.std.proofs.lemmas.Nat.{div-mul-add, mul-le}
use Rattle.cube_point.specs.Points.{point_cmp}
use Rattle.spec_points.proofs.Members.{every-from_All}
use Rattle.delta_agg.specs.declared.digits.Digit.{Digit}
use Rattle.delta_agg.specs.Batch.{place_at}
use Rattle.delta_agg.specs.Rows.{HasDigit, digit_of, digits_of, number_from, number_in, room, span}

-- ---- they fit

wider : (n s : ℕ) → (n + 1) * s ≡ n * s + s
wider n s = grind arith

together : (a b c : ℕ) → (a * b) * c ≡ a * (b * c)
together a b c = grind arith

-- a digit more, where room was left for it
pub digit-fits : (n c s r most : ℕ) → c < s → 1 ≤ r → (n + 1) * (s * r) ≤ most → n * s + c < most
digit-fits n c s r most low some left =
    omega (arith, low, left, wider n s, sym (together (n + 1) s r), mul-le ((n + 1) * s) 1 ((n + 1) * s) r (omega arith) some)

pub digit-left : (n c s r most : ℕ) → c < s → (n + 1) * (s * r) ≤ most → (n * s + c + 1) * r ≤ most
digit-left n c s r most low left =
    omega (arith, left, sym (together (n + 1) s r), mul-le (n * s + c + 1) r ((n + 1) * s) r (omega (arith, low, wider n s)) (omega arith))

pub room-some : (coordinates : List ℕ) (digits : List Digit) → AllByRecursion (HasDigit coordinates) digits → 1 ≤ room digits
room-some coordinates [] has = omega arith
room-some coordinates (d ∷ digits) has = omega (arith, mul-le 1 1 (span d) (room digits) (omega (arith, has.0.1)) (room-some coordinates digits has.1))

pub room-more : (r : ℕ) (d : Digit) (digits : List Digit) → (r * span d) * room digits ≡ r * room (d ∷ digits)
room-more r d digits = together r (span d) (room digits)

-- ---- the order

-- equal fronts are passed over
front-same : (front xs ys : List ℕ) → slice_cmp nat_cmp (front ++ xs) (front ++ ys) ≡ slice_cmp nat_cmp xs ys
front-same [] xs ys = refl
front-same (x ∷ front) xs ys = ap (λ r. ordering_then r (slice_cmp nat_cmp (front ++ xs) (front ++ ys))) (tied_itself nat_cmp_total x) ∙ front-same front xs ys

map-reverse : (f : ℕ → ℕ) (xs : List ℕ) → reverse (map f xs) ≡ map f (reverse xs)
map-reverse f [] = refl
map-reverse f (x ∷ xs) =
    reverse-append (f x ∷ []) (map f xs)
    ∙ (ap (λ front. front ++ f x ∷ []) (map-reverse f xs)
    ∙ (sym (map-append f (reverse xs) (x ∷ [])) ∙ ap (map f) (sym (reverse-append (x ∷ []) xs))))

-- places stand to each other as their coordinates from the last attribute down
pub place-compared : (view a b : List ℕ)
    → point_cmp (place_at view a) (place_at view b) ≡ slice_cmp nat_cmp (map (λ x. slice_index a x) (reverse view)) (map (λ x. slice_index b x) (reverse view))
place-compared view a b =
    let unused : List ℕ = reverse (replicate (8 - length view) 0) in
    let back : (c : List ℕ) → reverse (place_at view c) ≡ unused ++ map (λ x. slice_index c x) (reverse view)
    = λ c. reverse-append (map (λ x. slice_index c x) view) (replicate (8 - length (map (λ x. slice_index c x) view)) 0)
    ∙ (λ i. reverse (replicate (8 - length-map view (λ x. slice_index c x) i) 0) ++ map-reverse (λ x. slice_index c x) view i) in
    (λ i. slice_cmp nat_cmp (back a i) (back b i)) ∙ front-same unused (map (λ x. slice_index a x) (reverse view)) (map (λ x. slice_index b x) (reverse view))

step-below : (n m s x y : ℕ) → n < m → x < s → n * s + x < m * s + y
step-below n m s x y less low = omega (arith, low, wider n s, mul-le (n + 1) s m s (omega (arith, less)) (omega arith))

module _ (tops : List ℕ) where
  -- the coordinate is under its top
  abbrev pub Under : List ℕ → ℕ → Type 0
  Under c x = slice_index c x ≤ slice_index tops x

  abbrev number : List ℕ → ℕ → List ℕ → ℕ
  number back n c = number_from n (map (digit_of tops) back) c

  abbrev coordinates : List ℕ → List ℕ → List ℕ
  coordinates back c = map (λ x. slice_index c x) back

  -- a number below another stays so, whatever digits follow
  number-below : (back a b : List ℕ) (n m : ℕ) → AllByRecursion (Under a) back → n < m → number back n a < number back m b
  number-below [] a b n m under less = less
  number-below (x ∷ back) a b n m under less =
      let s : ℕ = slice_index tops x + 1 in
      number-below back a b (n * s + slice_index a x) (m * s + slice_index b x) under.1
      (step-below n m s (slice_index a x) (slice_index b x) less (omega (arith, under.0)))

  -- by the first digits, and by what follows where they are equal
  step-ranked : (x : ℕ) (back a b : List ℕ) (n : ℕ) (rest o : Ordering) → AllByRecursion (Under a) (x ∷ back) → AllByRecursion (Under b) (x ∷ back)
      → MatchOrdering o (slice_index a x < slice_index b x) (slice_index a x ≡ slice_index b x) (slice_index b x < slice_index a x)
      → ((m : ℕ) → MatchOrdering rest (number back m a < number back m b) (number back m a ≡ number back m b) (number back m b < number back m a))
      → MatchOrdering (ordering_then o rest) (number (x ∷ back) n a < number (x ∷ back) n b) (number (x ∷ back) n a ≡ number (x ∷ back) n b) (number (x ∷ back) n b < number (x ∷ back) n a)
  step-ranked x back a b n rest Less ua ub means more =
      let s : ℕ = slice_index tops x + 1 in
      number-below back a b (n * s + slice_index a x) (n * s + slice_index b x) ua.1 (omega (arith, means))
  step-ranked x back a b n rest Equal ua ub means more =
      let s : ℕ = slice_index tops x + 1 in
      let here : ℕ = number (x ∷ back) n a in
      let other : ℕ → ℕ = λ y. number back (n * s + y) b in
      let P : ℕ → Type 0 = λ y. MatchOrdering rest (here < other y) (here ≡ other y) (other y < here) in
      subst P means (more (n * s + slice_index a x))
  step-ranked x back a b n rest Greater ua ub means more =
      let s : ℕ = slice_index tops x + 1 in
      number-below back b a (n * s + slice_index b x) (n * s + slice_index a x) ub.1 (omega (arith, means))

  -- the numbers stand to each other as the coordinates
  numbers-ranked : (back a b : List ℕ) (n : ℕ) → AllByRecursion (Under a) back → AllByRecursion (Under b) back
      → MatchOrdering (slice_cmp nat_cmp (coordinates back a) (coordinates back b)) (number back n a < number back n b) (number back n a ≡ number back n b) (number back n b < number back n a)
  numbers-ranked [] a b n ua ub = refl
  numbers-ranked (x ∷ back) a b n ua ub =
      step-ranked x back a b n (slice_cmp nat_cmp (coordinates back a) (coordinates back b)) (nat_cmp (slice_index a x) (slice_index b x)) ua ub
      (ranks (slice_index a x) (slice_index b x)) (λ m. numbers-ranked back a b m ua.1 ub.1)

  -- ... and as the places
  pub places-ranked : (view a b : List ℕ) → AllByRecursion (Under a) (reverse view) → AllByRecursion (Under b) (reverse view)
      → MatchOrdering (point_cmp (place_at view a) (place_at view b))
      (number_from 0 (digits_of tops view) a < number_from 0 (digits_of tops view) b) (number_from 0 (digits_of tops view) a ≡ number_from 0 (digits_of tops view) b) (number_from 0 (digits_of tops view) b < number_from 0 (digits_of tops view) a)
  places-ranked view a b ua ub =
      let P : Ordering → Type 0 = λ o. MatchOrdering o (number (reverse view) 0 a < number (reverse view) 0 b) (number (reverse view) 0 a ≡ number (reverse view) 0 b) (number (reverse view) 0 b < number (reverse view) 0 a) in
      subst P (sym (place-compared view a b)) (numbers-ranked (reverse view) a b 0 ua ub)

-- ---- keys

below-is_lt : (x y : ℕ) → x < y → is_lt (nat_cmp x y) ≡ true
below-is_lt x y low = means (nat_cmp x y) (ranks x y)
  where
    means : (o : Ordering) → MatchOrdering o (x < y) (x ≡ y) (y < x) → is_lt o ≡ true
    means Less m = refl
    means Equal m = absurd (omega (arith, m, low))
    means Greater m = absurd (omega (arith, m, low))

-- keys are in the order of their places
pub key-before : (o : Ordering) (p q i j : ℕ) → MatchOrdering o (p < q) (p ≡ q) (q < p) → i < 2 ^ 18 → is_lt o ≡ true → is_lt (nat_cmp (p * 2 ^ 18 + i) (q * 2 ^ 18 + j)) ≡ true
key-before Less p q i j means low less = below-is_lt (p * 2 ^ 18 + i) (q * 2 ^ 18 + j) (far p q i j means low)
  where
    far : (p q i j : ℕ) → p < q → i < 2 ^ 18 → p * 2 ^ 18 + i < q * 2 ^ 18 + j
    far p q i j less low = omega arith
key-before Equal p q i j means low less = cc
key-before Greater p q i j means low less = cc

-- keys have one number where their places are one
pub number-same : (o : Ordering) (p q i j : ℕ) → MatchOrdering o (p < q) (p ≡ q) (q < p) → i < 2 ^ 18 → j < 2 ^ 18 → (number_in (p * 2 ^ 18 + i) == number_in (q * 2 ^ 18 + j)) ≡ is_eq o
number-same o p q i j means low other = (λ k. div-mul-add p (2 ^ 18) i low k == div-mul-add q (2 ^ 18) j other k) ∙ tested o means
  where
    tested : (o : Ordering) → MatchOrdering o (p < q) (p ≡ q) (q < p) → (p == q) ≡ is_eq o
    tested Less m = ne_eqb p q (λ e. omega (arith, m, e))
    tested Equal m = eq-eqb p q m
    tested Greater m = ne_eqb p q (λ e. omega (arith, m, e))

-- ---- one digit more

every-left : {X : Type 0} (P : X → Type 0) (xs : List X) (i : ℕ) → All P xs → AllByRecursion P (drop i xs)
every-left P xs i all = every-from_All P (drop i xs) (λ k d low. subst P (sym (get_or-drop i xs k d)) (all (i + k) d (omega (arith, low, length-drop i xs))))

module _ (digits : List Digit) (coordinates : List ℕ) (i n most : ℕ) (d : Digit) (has : All (HasDigit coordinates) digits) (low : i < length digits)
    (left : (n + 1) * room (drop i digits) ≤ most) where
  abbrev digit : Digit
  digit = get_or digits i d

  here : (n + 1) * (span digit * room (drop (i + 1) digits)) ≤ most
  here = subst (λ ds. (n + 1) * room ds ≤ most) (drop_more digits i d low) left

  pub more-fits : n * span digit + slice_index coordinates digit.attr < most
  more-fits = digit-fits n (slice_index coordinates digit.attr) (span digit) (room (drop (i + 1) digits)) most (has i d low).1 (room-some coordinates (drop (i + 1) digits) (every-left (HasDigit coordinates) digits (i + 1) has)) here

  pub more-left : (n * span digit + slice_index coordinates digit.attr + 1) * room (drop (i + 1) digits) ≤ most
  more-left = digit-left n (slice_index coordinates digit.attr) (span digit) (room (drop (i + 1) digits)) most (has i d low).1 here

  pub more-whole : number_from (n * span digit + slice_index coordinates digit.attr) (drop (i + 1) digits) coordinates ≡ number_from n (drop i digits) coordinates
  more-whole = sym (at_drop_more (λ ds. number_from n ds coordinates) digits i d low)

-- no digit is left
pub all-whole : (digits : List Digit) (coordinates : List ℕ) (i n : ℕ) → length digits ≤ i → number_from n (drop i digits) coordinates ≡ n
all-whole digits coordinates i n past = at_drop_all (λ ds. number_from n ds coordinates) digits i past

pub all-fits : (digits : List Digit) (i n most : ℕ) → length digits ≤ i → (n + 1) * room (drop i digits) ≤ most → n < most
all-fits digits i n most past left =
    let none : (n + 1) * room (drop i digits) ≡ (n + 1) * 1 = ap (λ r. (n + 1) * r) (at_drop_all room digits i past) in
    omega (arith, none, left)
