-- A point where its bytes lie: its coordinates, and the walk from the last one down.
use Rattle.std.proofs.Common.{◌≡◌, ◌≢◌, ◌≤◌, ◌<◌, ◌+◌, ◌-◌, ◌*◌, ℕ, zero, suc, Bool, List, [], ◌∷◌, length, take, drop, get_or, inl, inr, refl, sym, ap, ◌∙◌, arith}
use Rattle.std.specs.Prelude.{nat_lt, slice_index, not}
use Rattle.std.specs.List.{list_all}
use Rattle.std.specs.Cmp.{ranks, tied_itself, nat_cmp_total}
use Rattle.std.specs.Ordering.{is_lt, nat_cmp, ordering_then, MatchOrdering}
use Rattle.std.specs.declared.cmp.Ordering.{Ordering}
use Rattle.std.specs.declared.cmp.Ordering.TheVariants.{Less, Equal, Greater}
use Rattle.std.proofs.lemmas.Bool.{cases_eq, lt-ltb, le-ltb, cases_lt}
use Rattle.std.proofs.lemmas.List.{drop_at, drop-drop, get_or_append_left, length-append, length-replicate, take_at, get_or-drop, get_or-replicate, get_or_past}
use Rattle.be_numbers.specs.Formats.{many}
use Rattle.be_numbers.specs.Numbers.{number}
use Rattle.cube_point.specs.Points.{point_cmp}
use Rattle.cube_point.proofs.PointOrder.{cmp_down, cmp-down}
use Rattle.page_entry.specs.Bytes.{width, zeros}
use Rattle.page_entry.specs.Entries.{point_of}
use Rattle.page_entry.proofs.Loops.{many-at, many-long}

-- zeros behind a place
pub tail-zero : (k n : ℕ) (xs : List ℕ) → drop k xs ≡ zeros n → (i : ℕ) → k ≤ i → slice_index xs i ≡ 0
tail-zero k n xs e i le =
    let at : k + (i - k) ≡ i = omega arith in
    ap (slice_index xs) (sym at) ∙ (sym (get_or-drop k xs (i - k) 0) ∙ (ap (λ (l : List ℕ). get_or l (i - k) 0) e ∙ none n (i - k)))
  where
    none : (m j : ℕ) → slice_index (zeros m) j ≡ 0
    none m j = elim (cases_lt j m) [
      | inl lt ↦ get_or-replicate m j 0 0 lt
      | inr past ↦ get_or_past (zeros m) j 0 (omega (arith, length-replicate {A = ℕ} m 0))
    ]

-- the coordinates of the point in front of the bytes
abbrev pub coordinates : Bool → ℕ → List ℕ → List ℕ
coordinates wide arity b = (point_of wide arity b).at

pub eight : (wide : Bool) (arity : ℕ) (b : List ℕ) → arity ≤ 8 → length (coordinates wide arity b) ≡ 8
eight wide arity b le = omega (arith, le, length-append (many (number (width wide)) (width wide) arity b) (zeros (8 - arity)), many-long (number (width wide)) (width wide) arity b, length-replicate {A = ℕ} (8 - arity) 0)

-- a used one is read at its place, and the others are zero
pub used-at : (wide : Bool) (arity k at : ℕ) (b : List ℕ) → k < arity → number (width wide) (drop (at + k * width wide) b) ≡ slice_index (coordinates wide arity (drop at b)) k
used-at wide arity k at b lt =
    let there : k < length (many (number (width wide)) (width wide) arity (drop at b)) = omega (arith, lt, many-long (number (width wide)) (width wide) arity (drop at b)) in
    ap (number (width wide)) (sym (drop-drop (k * width wide) at b))
    ∙ (sym (many-at (number (width wide)) (width wide) arity k (drop at b) 0 lt) ∙ sym (get_or_append_left (many (number (width wide)) (width wide) arity (drop at b)) (zeros (8 - arity)) 0 k there))

pub unused-at : (wide : Bool) (arity k : ℕ) (b : List ℕ) → arity ≤ k → slice_index (coordinates wide arity b) k ≡ 0
unused-at wide arity k b le = tail-zero arity (8 - arity) (coordinates wide arity b) (drop_at (many (number (width wide)) (width wide) arity b) (zeros (8 - arity)) arity (many-long (number (width wide)) (width wide) arity b)) k le

-- they are eight, one by one
pub one-by-one : (l : List ℕ) → length l ≡ 8
    → l ≡ slice_index l 0 ∷ slice_index l 1 ∷ slice_index l 2 ∷ slice_index l 3 ∷ slice_index l 4 ∷ slice_index l 5 ∷ slice_index l 6 ∷ slice_index l 7 ∷ []
one-by-one [] long = absurd (omega (arith, long))
one-by-one (_ ∷ []) long = absurd (omega (arith, long))
one-by-one (_ ∷ _ ∷ []) long = absurd (omega (arith, long))
one-by-one (_ ∷ _ ∷ _ ∷ []) long = absurd (omega (arith, long))
one-by-one (_ ∷ _ ∷ _ ∷ _ ∷ []) long = absurd (omega (arith, long))
one-by-one (_ ∷ _ ∷ _ ∷ _ ∷ _ ∷ []) long = absurd (omega (arith, long))
one-by-one (_ ∷ _ ∷ _ ∷ _ ∷ _ ∷ _ ∷ []) long = absurd (omega (arith, long))
one-by-one (_ ∷ _ ∷ _ ∷ _ ∷ _ ∷ _ ∷ _ ∷ []) long = absurd (omega (arith, long))
one-by-one (_ ∷ _ ∷ _ ∷ _ ∷ _ ∷ _ ∷ _ ∷ _ ∷ []) long = refl
one-by-one (_ ∷ _ ∷ _ ∷ _ ∷ _ ∷ _ ∷ _ ∷ _ ∷ _ ∷ l) long = absurd (omega (arith, long))

-- the used ones alone
pub used-all : (wide : Bool) (arity : ℕ) (b : List ℕ) (p : ℕ → Bool) → list_all p (take arity (coordinates wide arity b)) ≡ list_all p (many (number (width wide)) (width wide) arity b)
used-all wide arity b p = ap (list_all p) (take_at (many (number (width wide)) (width wide) arity b) (zeros (8 - arity)) arity (many-long (number (width wide)) (width wide) arity b))

-- ---- the walk

cmp-itself : (x : ℕ) → nat_cmp x x ≡ Equal
cmp-itself x = tied_itself nat_cmp_total x

-- equal coordinates are passed over
pub down-same : (i : ℕ) (a b : List ℕ) → get_or a i 0 ≡ get_or b i 0 → cmp_down (suc i) a b ≡ cmp_down i a b
down-same i a b e = ap (λ (r : Ordering). ordering_then r (cmp_down i a b)) (ap (nat_cmp (get_or a i 0)) (sym e) ∙ cmp-itself (get_or a i 0))

-- the first coordinates that differ decide
then-differ : (x y : ℕ) (r : Ordering) → x ≢ y → ordering_then (nat_cmp x y) r ≡ nat_cmp x y
then-differ x y r n = by (nat_cmp x y) (ranks x y)
  where
    by : (s : Ordering) → MatchOrdering s (x < y) (x ≡ y) (y < x) → ordering_then s r ≡ s
    by Less m = refl
    by Equal m = absurd (n m)
    by Greater m = refl

pub down-differ : (i : ℕ) (a b : List ℕ) → get_or a i 0 ≢ get_or b i 0 → cmp_down (suc i) a b ≡ nat_cmp (get_or a i 0) (get_or b i 0)
down-differ i a b n = then-differ (get_or a i 0) (get_or b i 0) (cmp_down i a b) n

-- past the arity all are equal
pub down-tail : (n : ℕ) (a b : List ℕ) (k : ℕ) → k ≤ n → ((i : ℕ) → k ≤ i → i < n → get_or a i 0 ≡ get_or b i 0) → cmp_down n a b ≡ cmp_down k a b
down-tail zero a b k le same = let e : zero ≡ k = omega (arith, le) in ap (λ (m : ℕ). cmp_down m a b) e
down-tail (suc n) a b k le same = elim (cases_eq (suc n) k) [
  | inl is ↦ ap (λ (m : ℕ). cmp_down m a b) is
  | inr other ↦ down-same n a b (same n (omega (arith, le, other)) (omega arith)) ∙ down-tail n a b k (omega (arith, le, other)) (λ i past lt. same i past (omega (arith, lt)))
]

-- or the second has a coordinate there alone, and comes after
pub down-past : (n : ℕ) (a b : List ℕ) (k arity : ℕ) → arity ≤ k → k < n → 0 < get_or b k 0 → ((i : ℕ) → arity ≤ i → get_or a i 0 ≡ 0) → cmp_down n a b ≡ Less
down-past zero a b k arity le lt some none = absurd (omega (arith, lt))
down-past (suc n) a b k arity le lt some none =
    let here = none n (omega (arith, le, lt)) in
    elim (cases_eq (get_or b n 0) 0) [
      | inl empty ↦ down-same n a b (here ∙ sym empty) ∙ down-past n a b k arity le (omega (arith, lt, other n k empty some)) some none
      | inr there ↦ down-differ n a b (λ e. there (sym e ∙ here)) ∙ (ap (λ (x : ℕ). nat_cmp x (get_or b n 0)) here ∙ first (get_or b n 0) there)
    ]
  where
    other : (n k : ℕ) → get_or b n 0 ≡ 0 → 0 < get_or b k 0 → k ≢ n
    other n k empty some = λ e. let same : get_or b k 0 ≡ get_or b n 0 = ap (λ (j : ℕ). get_or b j 0) e in omega (arith, same, empty, some)

    first : (x : ℕ) → x ≢ 0 → nat_cmp 0 x ≡ Less
    first x not = by (nat_cmp 0 x) (ranks 0 x)
      where
        by : (s : Ordering) → MatchOrdering s (0 < x) (0 ≡ x) (x < 0) → s ≡ Less
        by Less m = refl
        by Equal m = absurd (not (sym m))
        by Greater m = absurd (omega (arith, m))

-- the walk over the used coordinates tells it
pub walk : (wide : Bool) (arity : ℕ) (left right : List ℕ) → arity ≤ 8 → cmp_down arity (coordinates wide arity left) (coordinates wide arity right) ≡ point_cmp (coordinates wide arity left) (coordinates wide arity right)
walk wide arity left right le =
    sym (down-tail 8 (coordinates wide arity left) (coordinates wide arity right) arity le (λ i past lt. unused-at wide arity i left past ∙ sym (unused-at wide arity i right past)))
    ∙ cmp-down (coordinates wide arity left) (coordinates wide arity right) (eight wide arity left le) (eight wide arity right le)

pub below-is : (x y : ℕ) → is_lt (nat_cmp x y) ≡ nat_lt x y
below-is x y = by (nat_cmp x y) (ranks x y)
  where
    by : (s : Ordering) → MatchOrdering s (x < y) (x ≡ y) (y < x) → is_lt s ≡ nat_lt x y
    by Less m = sym (lt-ltb x y m)
    by Equal m = sym (le-ltb x y (omega (arith, m)))
    by Greater m = sym (le-ltb x y (omega (arith, m)))
