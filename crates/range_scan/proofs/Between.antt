-- A leaf whose ends tell that all its points lie in the region.
use Rattle.std.proofs.Common.{◌≡◌, ◌≤◌, ◌<◌, ◌+◌, ◌-◌, ◌∙◌, ℕ, zero, suc, Bool, true, List, [], ◌∷◌, inl, inr, cond, filter, get_or, length, refl, sym, ap, subst, arith}
use Rattle.std.specs.Cmp.{ranks, tied_itself}
use Rattle.std.specs.Ordering.{nat_cmp, ordering_then, is_lt, MatchOrdering}
use Rattle.std.specs.declared.cmp.Ordering.{Ordering}
use Rattle.std.specs.declared.cmp.Ordering.TheVariants.{Less, Equal, Greater}
use Rattle.std.proofs.lemmas.Bool.{cases_eq, cases_lt, true≢false}
use Rattle.std.proofs.lemmas.List.{get_or_default}
use Rattle.cube_point.specs.Boxes.{IsInside}
use Rattle.cube_point.specs.Points.{point_cmp}
use Rattle.cube_point.specs.declared.bounds.Region.{Region}
use Rattle.cube_point.specs.declared.point.Entry.{Entry}
use Rattle.cube_point.specs.declared.point.Shape.{Shape}
use Rattle.cube_point.proofs.PointOrder.{chain, cmp-down, cmp_down, point-total}
use Rattle.page_entry.specs.Entries.{ascend, entry_before}
use Rattle.page_fmt.specs.Writing.{AreEntries}
use Rattle.page_entry.proofs.Tests.{and-both}
use Rattle.range_scan.specs.Ends.{TellAll}
use Rattle.range_scan.specs.Meeting.{is_inside}
use Rattle.range_scan.proofs.Tests.{inside-from}

-- ---- three points in order

-- the first does not come after the second
abbrev IsNotAfter : Ordering → Type 0
IsNotAfter r = r ≡ Greater → ⊥

-- the coordinates that are compared first, and the others where those are equal
compared-first : (x y : ℕ) (r : Ordering) → IsNotAfter (ordering_then (nat_cmp x y) r) → (x ≤ y) × (x ≡ y → IsNotAfter r)
compared-first x y r = by (nat_cmp x y) (ranks x y)
  where
    by : (s : Ordering) → MatchOrdering s (x < y) (x ≡ y) (y < x) → IsNotAfter (ordering_then s r) → (x ≤ y) × (x ≡ y → IsNotAfter r)
    by Less m h = (omega (arith, m), λ is. absurd (omega (arith, m, is)))
    by Equal m h = (omega (arith, m), λ is. h)
    by Greater m h = absurd (h refl)

-- past a dimension the middle one is equal to the first, and there it lies between the two others
record IsBetween (count dimension : ℕ) (a b c : List ℕ) : Type 0 where
  same : (i : ℕ) → dimension < i → i < count → get_or b i 0 ≡ get_or a i 0
  low : get_or a dimension 0 ≤ get_or b dimension 0
  high : get_or b dimension 0 ≤ get_or c dimension 0

between-down : (count dimension : ℕ) (a b c : List ℕ) → dimension < count → ((i : ℕ) → dimension < i → i < count → get_or a i 0 ≡ get_or c i 0)
    → IsNotAfter (cmp_down count a b) → IsNotAfter (cmp_down count b c) → IsBetween count dimension a b c
between-down zero dimension a b c few ends left right = absurd (omega (arith, few))
between-down (suc n) dimension a b c few ends left right =
    let one = compared-first (get_or a n 0) (get_or b n 0) (cmp_down n a b) left in
    let two = compared-first (get_or b n 0) (get_or c n 0) (cmp_down n b c) right in
    let one-le : get_or a n 0 ≤ get_or b n 0 = one.0 in
    let two-le : get_or b n 0 ≤ get_or c n 0 = two.0 in
    elim (cases_eq n dimension) [
      | inl is ↦ record {
        same = λ i past below. absurd (omega (arith, past, below, is));
        low = subst (λ j. get_or a j 0 ≤ get_or b j 0) is one-le;
        high = subst (λ j. get_or b j 0 ≤ get_or c j 0) is two-le;
      }
      | inr other ↦
          let here : get_or a n 0 ≡ get_or c n 0 = ends n (omega (arith, few, other)) (omega arith) in
          let first : get_or a n 0 ≡ get_or b n 0 = omega (arith, one-le, two-le, here) in
          let second : get_or b n 0 ≡ get_or c n 0 = omega (arith, one-le, two-le, here) in
          let rest = between-down n dimension a b c (omega (arith, few, other)) (λ i past below. ends i past (omega (arith, below))) (one.1 first) (two.1 second) in
          record {
            same = λ i past below. elim (cases_eq i n) [
              | inl at ↦ subst (λ j. get_or b j 0 ≡ get_or a j 0) (sym at) (sym first)
              | inr under ↦ rest.same i past (omega (arith, below, under))
            ];
            low = rest.low;
            high = rest.high;
          }
    ]

down : (a b : List ℕ) → length a ≡ 8 → length b ≡ 8 → IsNotAfter (point_cmp a b) → IsNotAfter (cmp_down 8 a b)
down a b l m h = λ is. h (sym (cmp-down a b l m) ∙ is)

-- ---- two entries of a leaf

abbrev IsUpTo : Entry → Entry → Type 0
IsUpTo e f = IsNotAfter (point_cmp e.point.at f.point.at)

before-up : (e f : Entry) → entry_before e f ≡ true → IsUpTo e f
unfolding entry_before
before-up e f is = λ after. true≢false (sym is ∙ ap is_lt after)

itself-up : (e : Entry) → IsUpTo e e
itself-up e = λ after. let never : Equal ≡ Greater = sym (tied_itself point-total e.point.at) ∙ after in cc

before-chain : (e f g : Entry) → entry_before e f ≡ true → entry_before f g ≡ true → entry_before e g ≡ true
unfolding entry_before
before-chain e f g h k = chain e.point f.point g.point h k

rest-ascends : (x : Entry) (es : List Entry) → ascend entry_before (x ∷ es) ≡ true → ascend entry_before es ≡ true
rest-ascends x [] h = refl
rest-ascends x (y ∷ es) h = (and-both (entry_before x y) (ascend entry_before (y ∷ es)) h).1

first-before : (x : Entry) (es : List Entry) → ascend entry_before (x ∷ es) ≡ true → (k : ℕ) (d : Entry) → k < length es → entry_before x (get_or es k d) ≡ true
first-before x [] h k d lt = absurd (omega (arith, lt))
first-before x (y ∷ es) h zero d lt = (and-both (entry_before x y) (ascend entry_before (y ∷ es)) h).0
first-before x (y ∷ es) h (suc k) d lt =
    let both = and-both (entry_before x y) (ascend entry_before (y ∷ es)) h in
    before-chain x y (get_or es k d) both.0 (first-before y es both.1 k d (omega (arith, lt)))

pair-before : (es : List Entry) → ascend entry_before es ≡ true → (i j : ℕ) (d : Entry) → i < j → j < length es → entry_before (get_or es i d) (get_or es j d) ≡ true
pair-before [] h i j d low lt = absurd (omega (arith, lt))
pair-before (x ∷ es) h i zero d low lt = absurd (omega (arith, low))
pair-before (x ∷ es) h zero (suc j) d low lt = first-before x es h j d (omega (arith, lt))
pair-before (x ∷ es) h (suc i) (suc j) d low lt = pair-before es (rest-ascends x es h) i j d (omega (arith, low)) (omega (arith, lt))

pair-up : (es : List Entry) → ascend entry_before es ≡ true → (i j : ℕ) (d : Entry) → i ≤ j → j < length es → IsUpTo (get_or es i d) (get_or es j d)
pair-up es h i j d low lt = elim (cases_eq i j) [
  | inl is ↦ subst (λ n. IsUpTo (get_or es i d) (get_or es n d)) is (itself-up (get_or es i d))
  | inr other ↦ before-up (get_or es i d) (get_or es j d) (pair-before es h i j d (omega (arith, low, other)) lt)
]

-- ---- all entries of a leaf

filter-all : {A : Type 0} (p : A → Bool) (xs : List A) (d : A) → ((k : ℕ) → k < length xs → p (get_or xs k d) ≡ true) → filter p xs ≡ xs
filter-all p [] d h = refl
filter-all p (x ∷ xs) d h =
    ap (λ b. cond b (x ∷ filter p xs) (filter p xs)) (h 0 (omega arith)) ∙ ap (λ l. x ∷ l) (filter-all p xs d (λ k lt. h (suc k) (omega (arith, lt))))

module _ (shape : Shape) (region : Region) (es : List Entry) (are : AreEntries shape es) where
  module _ (d : Entry) (some : 0 < length es) (tell : TellAll shape.wide (get_or es 0 d).point (get_or es (length es - 1) d).point region) (k : ℕ) (lt : k < length es) where
    abbrev first : Entry
    first = get_or es 0 d

    abbrev last : Entry
    last = get_or es (length es - 1) d

    abbrev here : Entry
    here = get_or es k d

    lies-between : IsBetween 8 tell.apart first.point.at here.point.at last.point.at
    lies-between = between-down 8 tell.apart first.point.at here.point.at last.point.at tell.few tell.same
        (down first.point.at here.point.at (are.good 0 d some).eight (are.good k d lt).eight (pair-up es are.order 0 k d (omega arith) lt))
        (down here.point.at last.point.at (are.good k d lt).eight (are.good (length es - 1) d (omega (arith, some))).eight
        (pair-up es are.order k (length es - 1) d (omega (arith, lt)) (omega (arith, some))))

    same-arity : here.point.arity ≡ first.point.arity
    same-arity = are.arities k d lt ∙ sym (are.arities 0 d some)

    abbrev LiesAt : ℕ → Type 0
    LiesAt i = (get_or region.bounds.low i 0 ≤ get_or here.point.at i 0) × (get_or here.point.at i 0 ≤ get_or region.bounds.high i 0)

    as-first : (i : ℕ) → i < 8 → get_or here.point.at i 0 ≡ get_or first.point.at i 0 → LiesAt i
    as-first i few is = let at = tell.first_inside.place i few in (omega (arith, at.0, is), omega (arith, at.1, is))

    lies-open : (i : ℕ) → i < 8 → i < tell.apart → LiesAt i
    lies-open i few below = elim (cases_lt i here.point.arity) [
      | inl used ↦
          let sides = tell.before i below in
          (omega (arith, sides.0, (are.good k d lt).point.used i used), sides.1 (get_or here.point.at i 0) ((are.good k d lt).narrow i))
      | inr past ↦
          let none : get_or here.point.at i 0 ≡ 0 = (are.good k d lt).point.unused i past in
          as-first i few (none ∙ sym ((are.good 0 d some).point.unused i (omega (arith, past, same-arity))))
    ]

    lies-apart : (i : ℕ) → i < 8 → tell.apart ≡ i → LiesAt i
    lies-apart i few is =
        let low : get_or first.point.at i 0 ≤ get_or here.point.at i 0 = subst (λ j. get_or first.point.at j 0 ≤ get_or here.point.at j 0) is lies-between.low in
        let high : get_or here.point.at i 0 ≤ get_or last.point.at i 0 = subst (λ j. get_or here.point.at j 0 ≤ get_or last.point.at j 0) is lies-between.high in
        (omega (arith, low, (tell.first_inside.place i few).0), omega (arith, high, (tell.last_inside.place i few).1))

    lies-inside : IsInside here.point region
    lies-inside = record {
      arity = same-arity ∙ tell.first_inside.arity;
      place = λ i few. elim (cases_lt i tell.apart) [
        | inl below ↦ lies-open i few below
        | inr not ↦ elim (cases_eq tell.apart i) [
          | inl is ↦ lies-apart i few is
          | inr other ↦ as-first i few (lies-between.same i (omega (arith, not, other)) few)
        ]
      ];
    }

  -- the first and the last entry are found at their places
  pub all-inside : (f l : Entry) (at : ℕ) → f ≡ get_or es 0 f → l ≡ get_or es at l → at + 1 ≡ length es → TellAll shape.wide f.point l.point region → filter (is_inside region) es ≡ es
  all-inside f l at f-is l-is at-is tell =
      let some : 0 < length es = omega (arith, at-is) in
      let at-last : at ≡ length es - 1 = omega (arith, at-is) in
      let last-is : l ≡ get_or es (length es - 1) f = l-is ∙ (get_or_default es at l f (omega (arith, at-is)) ∙ ap (λ n. get_or es n f) at-last) in
      let told = subst (λ (e : Entry). TellAll shape.wide (get_or es 0 f).point e.point region) last-is (subst (λ (e : Entry). TellAll shape.wide e.point l.point region) f-is tell) in
      filter-all (is_inside region) es f (λ k lt. inside-from region (get_or es k f) (lies-inside f some told k lt))
