-- Of leaves in order, those that may hold numbers of a range are few: all but the first and the last are full of them.
use Rattle.std.proofs.Common.{◌≡◌, ◌⊎◌, inl, inr, ℕ, zero, suc, ◌+◌, ◌-◌, ◌*◌, ◌/◌, ◌<◌, ◌≤◌, ◌&&◌, ◌||◌, nat_le, Bool, true, false, cond, List, [], ◌∷◌, ◌++◌, filter, length, length-append, mul_comm, mul-suc, refl, sym, ap, ◌∙◌, subst, arith, true≢false}
use Rattle.std.proofs.lemmas.Bool.{and_from, and_parts, cases_Bool, le-leb, leb-true, leb-false}
use Rattle.std.proofs.lemmas.Nat.{le-div}
use Rattle.std.proofs.lemmas.List.Elements.{filter-append}
use Rattle.std.specs.List.{AllByRecursion, list_any}
use Rattle.spec_tree.proofs.Runs.{joined}
use Rattle.spec_leaves.specs.Leaves.{most_leaves}

-- ---- lists

pub every-right : {X : Type 0} (P : X → Type 0) (xs ys : List X) → AllByRecursion P (xs ++ ys) → AllByRecursion P ys
every-right P [] ys h = h
every-right P (x ∷ xs) ys h = every-right P xs ys h.1

pub every-left : {X : Type 0} (P : X → Type 0) (xs ys : List X) → AllByRecursion P (xs ++ ys) → AllByRecursion P xs
every-left P [] ys h = tt
every-left P (x ∷ xs) ys h = (h.0, every-left P xs ys h.1)

pub every-map : {X : Type 0} (P S : X → Type 0) → ((x : X) → P x → S x) → (xs : List X) → AllByRecursion P xs → AllByRecursion S xs
every-map P S f [] a = tt
every-map P S f (x ∷ xs) a = (f x a.0, every-map P S f xs a.1)

pub every-both : {X : Type 0} (P S : X → Type 0) (xs : List X) → AllByRecursion P xs → AllByRecursion S xs → AllByRecursion (λ x. P x × S x) xs
every-both P S [] a b = tt
every-both P S (x ∷ xs) a b = ((a.0, b.0), every-both P S xs a.1 b.1)

-- each of the first list with each of the second, and the other way round
pub turned : {X Y : Type 0} (R : X → Y → Type 0) (xs : List X) (ys : List Y) → AllByRecursion (λ x. AllByRecursion (λ y. R x y) ys) xs → AllByRecursion (λ y. AllByRecursion (λ x. R x y) xs) ys
turned R xs [] h = tt
turned R xs (y ∷ ys) h = (
  every-map (λ x. AllByRecursion (λ z. R x z) (y ∷ ys)) (λ x. R x y) (λ x all. all.0) xs h,
  turned R xs ys (every-map (λ x. AllByRecursion (λ z. R x z) (y ∷ ys)) (λ x. AllByRecursion (λ z. R x z) ys) (λ x all. all.1) xs h),
)

either : (x y : Bool) → (x || y) ≡ true → (x ≡ true) ⊎ (y ≡ true)
either true y is = inl refl
either false y is = inr is

module _ {X : Type 0} (p : X → Bool) where
  -- an item that passes, with what all have
  pub some-has : (P : X → Type 0) (xs : List X) → list_any p xs ≡ true → AllByRecursion P xs → (x : X) × (p x ≡ true) × P x
  some-has P [] is all = absurd (true≢false (sym is))
  some-has P (x ∷ xs) is all = elim (either (p x) (list_any p xs) is) [ inl here ↦ (x, here, all.0) | inr later ↦ some-has P xs later all.1 ]

  none-passes : (xs : List X) → list_any p xs ≡ false → AllByRecursion (λ x. p x ≡ false) xs
  none-passes [] not = tt
  none-passes (x ∷ xs) not = elim (cases_Bool (p x)) [
    | inl is ↦ absurd (true≢false (sym (ap (λ (b : Bool). b || list_any p xs) is) ∙ not))
    | inr fails ↦ (fails, none-passes xs (ap (λ (b : Bool). b || list_any p xs) (sym fails) ∙ not))
  ]

  no-any : (xs : List X) → AllByRecursion (λ x. p x ≡ false) xs → list_any p xs ≡ false
  no-any [] h = refl
  no-any (x ∷ xs) h = ap (λ (b : Bool). b || list_any p xs) h.0 ∙ no-any xs h.1

  -- how many pass
  abbrev pub passing : List X → ℕ
  passing xs = length (filter p xs)

  pub passing-is : (b : Bool) (x : X) (xs : List X) → p x ≡ b → passing (x ∷ xs) ≡ length (cond b (x ∷ filter p xs) (filter p xs))
  passing-is b x xs is = ap (λ t. length (cond t (x ∷ filter p xs) (filter p xs))) is

  pub passing-append : (xs ys : List X) → passing (xs ++ ys) ≡ passing xs + passing ys
  passing-append xs ys = ap length (filter-append p xs ys) ∙ length-append (filter p xs) (filter p ys)

  passing-all : (xs : List X) → AllByRecursion (λ x. p x ≡ true) xs → passing xs ≡ length xs
  passing-all [] h = refl
  passing-all (x ∷ xs) h = passing-is true x xs h.0 ∙ ap suc (passing-all xs h.1)

  pub passing-none : (xs : List X) → AllByRecursion (λ x. p x ≡ false) xs → passing xs ≡ 0
  passing-none [] h = refl
  passing-none (x ∷ xs) h = passing-is false x xs h.0 ∙ passing-none xs h.1

-- no fewer pass a weaker test
pub passing-fewer : {X : Type 0} (p q : X → Bool) (xs : List X) → AllByRecursion (λ x. p x ≡ true → q x ≡ true) xs → length (filter p xs) ≤ length (filter q xs)
passing-fewer p q [] only = omega arith
passing-fewer p q (x ∷ xs) only = elim (cases_Bool (p x)) [
  | inl is ↦ omega (arith, passing-is p true x xs is, passing-is q true x xs (only.0 is), passing-fewer p q xs only.1)
  | inr not ↦ elim (cases_Bool (q x)) [
    | inl also ↦ omega (arith, passing-is p false x xs not, passing-is q true x xs also, passing-fewer p q xs only.1)
    | inr neither ↦ omega (arith, passing-is p false x xs not, passing-is q false x xs neither, passing-fewer p q xs only.1)
  ]
]

-- ---- so many leaves, all full

-- as many as so many leaves hold
abbrev rooms : ℕ → ℕ → ℕ
rooms room zero = 0
rooms room (suc n) = room + rooms room n

rooms-times : (room n : ℕ) → rooms room n ≡ room * n
rooms-times room zero = omega arith
rooms-times room (suc n) = omega (arith, rooms-times room n, mul-suc room n)

rooms-up : (room m n : ℕ) → m ≤ n → rooms room m ≤ rooms room n
rooms-up room zero n le = omega arith
rooms-up room (suc m) zero le = absurd (omega (arith, le))
rooms-up room (suc m) (suc n) le = omega (arith, rooms-up room m n (omega (arith, le)))

-- the leaves are at most one, or so many between the first and the last are full of what is found, and these two have one each
abbrev pub IsFew : ℕ → ℕ → ℕ → Type 0
IsFew room count found = (count ≤ 1) ⊎ ((rest : ℕ) × (count ≤ suc rest) × (rooms room rest + 2 ≤ found + room))

pub few-more : (room count lower found more : ℕ) → lower ≤ count → found ≤ more → IsFew room count found → IsFew room lower more
few-more room count lower found more low le few = elim few [
  | inl one ↦ inl (omega (arith, low, one))
  | inr many ↦ inr (many.0, omega (arith, many.1, low), omega (arith, many.2, le))
]

pub few-bound : (room count found : ℕ) → 0 < room → IsFew room count found → count ≤ most_leaves found room
few-bound room count found some few = elim few [
  | inl one ↦ omega (arith, one)
  | inr many ↦
      let within : many.0 * room ≤ found + room - 2 = omega (arith, many.2, rooms-times room many.0, mul_comm room many.0) in
      let times : many.0 ≤ (found + room - 2) / room = le-div many.0 (found + room - 2) room some within in
      omega (arith, many.1, times)
]

-- ---- leaves of numbers that do not fall

module _ {E : Type 0} (z : E → ℕ) (low high : ℕ) where
  -- the number of the entry is in the range
  abbrev pub is_hit : E → Bool
  is_hit e = nat_le low (z e) && nat_le (z e) high

  abbrev is_low : E → Bool
  is_low e = nat_le (z e) high

  abbrev is_high : E → Bool
  is_high e = nat_le low (z e)

  -- the leaf has a number that is not past the range, and one that is not before it
  abbrev pub is_touched : List E → Bool
  is_touched es = list_any (λ e. nat_le (z e) high) es && list_any (λ e. nat_le low (z e)) es

  -- the numbers do not fall
  abbrev pub Sorted : List E → Type 0
  Sorted [] = Unit {0}
  Sorted (e ∷ es) = AllByRecursion (λ f. z e ≤ z f) es × Sorted es

  abbrev pub hits : List E → ℕ
  hits es = passing is_hit es

  abbrev pub touched : List (List E) → ℕ
  touched rs = passing is_touched rs

  hit-from : (e : E) → low ≤ z e → z e ≤ high → is_hit e ≡ true
  hit-from e from to = and_from (nat_le low (z e)) (nat_le (z e) high) (le-leb low (z e) from) (le-leb (z e) high to)

  hit-counts : (p : E → Bool) (es : List E) → list_any p es ≡ true → AllByRecursion (λ e. p e ≡ true → is_hit e ≡ true) es → 1 ≤ hits es
  hit-counts p [] is all = absurd (true≢false (sym is))
  hit-counts p (e ∷ es) is all = elim (cases_Bool (is_hit e)) [
    | inl hit ↦ omega (arith, passing-is is_hit true e es hit)
    | inr not ↦ elim (either (p e) (list_any p es) is) [
      | inl here ↦ absurd (true≢false (sym (all.0 here) ∙ not))
      | inr later ↦ omega (arith, passing-is is_hit false e es not, hit-counts p es later all.1)
    ]
  ]

  each-hit : (es : List E) → AllByRecursion (λ e. low ≤ z e) es → AllByRecursion (λ e. z e ≤ high) es → AllByRecursion (λ e. is_hit e ≡ true) es
  each-hit [] h g = tt
  each-hit (e ∷ es) h g = (hit-from e h.0 g.0, each-hit es h.1 g.1)

  before-all : (xs ys : List E) → Sorted (xs ++ ys) → AllByRecursion (λ x. AllByRecursion (λ y. z x ≤ z y) ys) xs
  before-all [] ys h = tt
  before-all (x ∷ xs) ys h = (every-right (λ y. z x ≤ z y) xs ys h.0, before-all xs ys h.1)

  sorted-right : (xs ys : List E) → Sorted (xs ++ ys) → Sorted ys
  sorted-right [] ys h = h
  sorted-right (x ∷ xs) ys h = sorted-right xs ys h.1

  -- past the range no leaf is touched
  none-touched : (rs : List (List E)) → list_any is_low (joined rs) ≡ false → touched rs ≡ 0
  none-touched [] not = refl
  none-touched (r ∷ rs) not =
      let Past : E → Type 0 = λ e. is_low e ≡ false in
      let all = none-passes is_low (r ++ joined rs) not in
      passing-is is_touched false r rs (ap (λ (b : Bool). b && list_any is_high r) (no-any is_low r (every-left Past r (joined rs) all)))
      ∙ none-touched rs (no-any is_low (joined rs) (every-right Past r (joined rs) all))

  most-one : (r : List E) (rs : List (List E)) → touched (r ∷ rs) ≤ suc (touched rs)
  most-one r rs = elim (is_touched r) as (λ b. length (cond b (r ∷ filter is_touched rs) (filter is_touched rs)) ≤ suc (touched rs)) [ true ↦ omega arith | false ↦ omega arith ]

  -- a later number that is not past the range: none before it is
  not-past : (r : List E) (rs : List (List E)) → Sorted (r ++ joined rs) → list_any is_low (joined rs) ≡ true → AllByRecursion (λ x. z x ≤ high) r
  not-past r rs sorted more =
      let later = some-has is_low (λ y. AllByRecursion (λ x. z x ≤ z y) r) (joined rs) more (turned (λ x y. z x ≤ z y) r (joined rs) (before-all r (joined rs) sorted)) in
      every-map (λ x. z x ≤ z later.0) (λ x. z x ≤ high) (λ x le. omega (arith, le, leb-true (z later.0) high later.1)) r later.2

  module _ (room : ℕ) (some : 0 < room) where
    -- no leaf is empty, and all but the last are full
    abbrev pub Packed : List (List E) → Type 0
    Packed [] = Unit {0}
    Packed (r ∷ rs) = (0 < length r) × (0 < length rs → length r ≡ room) × Packed rs

    some-runs : (rs : List (List E)) → list_any is_low (joined rs) ≡ true → 0 < length rs
    some-runs [] is = absurd (true≢false (sym is))
    some-runs (r ∷ rs) is = omega arith

    -- where no number is before the range: all touched leaves but the last are full of hits, and the last has one
    from-low : (rs : List (List E)) → Packed rs → Sorted (joined rs) → AllByRecursion (λ e. low ≤ z e) (joined rs)
        → rooms room (touched rs) + 1 ≤ hits (joined rs) + room
    from-low [] packed sorted from = omega (arith, some)
    from-low (r ∷ rs) packed sorted from =
        let both : hits (r ++ joined rs) ≡ hits r + hits (joined rs) = passing-append is_hit r (joined rs) in
        let own = every-left (λ e. low ≤ z e) r (joined rs) from in
        elim (cases_Bool (list_any is_low (joined rs))) [
          | inl more ↦
              let full : hits r ≡ room = passing-all is_hit r (each-hit r own (not-past r rs sorted more)) ∙ packed.1 (some-runs rs more) in
              let rest = from-low rs packed.2 (sorted-right r (joined rs) sorted) (every-right (λ e. low ≤ z e) r (joined rs) from) in
              omega (arith, rooms-up room (touched (r ∷ rs)) (suc (touched rs)) (most-one r rs), rest, both, full)
          | inr none ↦
              let zero-rest : touched rs ≡ 0 = none-touched rs none in
              elim (cases_Bool (is_touched r)) [
                | inl is ↦
                    let ends = and_parts (list_any is_low r) (list_any is_high r) is in
                    let one : 1 ≤ hits r = hit-counts is_low r ends.0
                    (every-map (λ e. low ≤ z e) (λ e. is_low e ≡ true → is_hit e ≡ true) (λ e le to. hit-from e le (leb-true (z e) high to)) r own) in
                    let count : touched (r ∷ rs) ≡ 1 = passing-is is_touched true r rs is ∙ ap suc zero-rest in
                    omega (arith, ap (rooms room) count, both, one)
                | inr not ↦
                    let count : touched (r ∷ rs) ≡ 0 = passing-is is_touched false r rs not ∙ zero-rest in
                    omega (arith, ap (rooms room) count, some)
              ]
        ]

    pub few-touched : (rs : List (List E)) → Packed rs → Sorted (joined rs) → IsFew room (touched rs) (hits (joined rs))
    few-touched [] packed sorted = inl (omega arith)
    few-touched (r ∷ rs) packed sorted =
        let both : hits (r ++ joined rs) ≡ hits r + hits (joined rs) = passing-append is_hit r (joined rs) in
        elim (cases_Bool (is_touched r)) [
          | inr not ↦ few-more room (touched rs) (touched (r ∷ rs)) (hits (joined rs)) (hits (r ++ joined rs)) (omega (arith, passing-is is_touched false r rs not)) (omega (arith, both))
              (few-touched rs packed.2 (sorted-right r (joined rs) sorted))
          | inl is ↦
              let count : touched (r ∷ rs) ≡ suc (touched rs) = passing-is is_touched true r rs is in
              let ends = and_parts (list_any is_low r) (list_any is_high r) is in
              elim (cases_Bool (list_any is_low (joined rs))) [
                | inr none ↦ inl (omega (arith, count, none-touched rs none))
                | inl more ↦
                    let first = some-has is_high (λ x. AllByRecursion (λ y. z x ≤ z y) (joined rs)) r ends.1 (before-all r (joined rs) sorted) in
                    let from = every-map (λ y. z first.0 ≤ z y) (λ y. low ≤ z y) (λ y le. omega (arith, le, leb-true low (z first.0) first.1)) (joined rs) first.2 in
                    let rest = from-low rs packed.2 (sorted-right r (joined rs) sorted) from in
                    let one : 1 ≤ hits r = hit-counts is_high r ends.1
                    (every-map (λ e. z e ≤ high) (λ e. is_high e ≡ true → is_hit e ≡ true) (λ e to le. hit-from e (leb-true low (z e) le) to) r (not-past r rs sorted more)) in
                    inr (touched rs, omega (arith, count), omega (arith, rest, both, one))
              ]
        ]
