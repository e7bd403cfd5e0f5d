-- The tests of a search tell what points and boxes are in a region.
use Rattle.std.proofs.Common.{◌≡◌, ◌≤◌, ◌<◌, ◌+◌, ℕ, zero, suc, Bool, true, min, max, refl, ap, ◌∙◌, arith}
use Rattle.std.specs.Prelude.{◌==◌, ◌↔◌, IsTrue, nat_le, slice_index, map}
use Rattle.std.specs.Cmp.{both_ways}
use Rattle.std.specs.List.{list_all, range_with_len}
use Rattle.std.proofs.lemmas.Bool.{and_from, eqb-true, eq-eqb, leb-true, le-leb}
use Rattle.std.proofs.lemmas.List.FromFn.{get_or-map-range_with_len, length-map-range_with_len}
use Rattle.cube_point.specs.Boxes.{IsInside, ShareAPlace}
use Rattle.cube_point.specs.declared.bounds.Bounds.{Bounds}
use Rattle.cube_point.specs.declared.bounds.Region.{Region}
use Rattle.cube_point.specs.declared.point.Entry.{Entry}
use Rattle.page_entry.proofs.Tests.{and-both}
use Rattle.range_scan.specs.Meeting.{is_inside, is_met, lies_between, lies_within}

-- a test of each number of a range
range-each : (p : ℕ → Bool) (a n : ℕ) → list_all p (range_with_len a n) ≡ true → (i : ℕ) → i < n → p (a + i) ≡ true
range-each p a zero h i lt = absurd (omega (arith, lt))
range-each p a (suc n) h zero lt = let same : a + 0 ≡ a = omega arith in ap p same ∙ (and-both (p a) (list_all p (range_with_len (a + 1) n)) h).0
range-each p a (suc n) h (suc i) lt =
    let same : a + suc i ≡ a + 1 + i = omega arith in
    ap p same ∙ range-each p (a + 1) n (and-both (p a) (list_all p (range_with_len (a + 1) n)) h).1 i (omega (arith, lt))

each-range : (p : ℕ → Bool) (a n : ℕ) → ((i : ℕ) → i < n → p (a + i) ≡ true) → list_all p (range_with_len a n) ≡ true
each-range p a zero h = refl
each-range p a (suc n) h =
    let here : a ≡ a + 0 = omega arith in
    and_from (p a) (list_all p (range_with_len (a + 1) n)) (ap p here ∙ h 0 (omega arith))
    (each-range p (a + 1) n (λ i lt. let next : a + 1 + i ≡ a + suc i = omega arith in ap p next ∙ h (suc i) (omega (arith, lt))))

-- a test of the eight dimensions
eight-each : (p : ℕ → Bool) → list_all p (range_with_len 0 8) ≡ true → (i : ℕ) → i < 8 → p i ≡ true
eight-each p h i lt = let same : i ≡ 0 + i = omega arith in ap p same ∙ range-each p 0 8 h i lt

each-eight : (p : ℕ → Bool) → ((i : ℕ) → i < 8 → p i ≡ true) → list_all p (range_with_len 0 8) ≡ true
each-eight p h = each-range p 0 8 (λ i lt. let same : 0 + i ≡ i = omega arith in ap p same ∙ h i lt)

-- ---- points

abbrev between : Region → Entry → ℕ → Bool
between region e i = lies_between (slice_index region.bounds.low i) (slice_index region.bounds.high i) (slice_index e.point.at i)

pub inside-told : (region : Region) (e : Entry) → is_inside region e ≡ true → IsInside e.point region
unfolding is_inside
inside-told region e h =
    let both = and-both (e.point.arity == region.arity) (lies_within region e) h in
    record {
      arity = eqb-true e.point.arity region.arity both.0;
      place = λ i lt.
          let here = and-both (nat_le (slice_index region.bounds.low i) (slice_index e.point.at i)) (nat_le (slice_index e.point.at i) (slice_index region.bounds.high i))
          (eight-each (between region e) both.1 i lt) in
          (leb-true (slice_index region.bounds.low i) (slice_index e.point.at i) here.0, leb-true (slice_index e.point.at i) (slice_index region.bounds.high i) here.1);
    }

pub inside-from : (region : Region) (e : Entry) → IsInside e.point region → is_inside region e ≡ true
unfolding is_inside
inside-from region e is =
    and_from (e.point.arity == region.arity) (lies_within region e) (eq-eqb e.point.arity region.arity is.arity)
    (each-eight (between region e) (λ i lt.
    let here = is.place i lt in
    and_from (nat_le (slice_index region.bounds.low i) (slice_index e.point.at i)) (nat_le (slice_index e.point.at i) (slice_index region.bounds.high i))
    (le-leb (slice_index region.bounds.low i) (slice_index e.point.at i) here.0) (le-leb (slice_index e.point.at i) (slice_index region.bounds.high i) here.1)))

-- what is told of a point is the test
pub inside-is : (told : Bool) (region : Region) (e : Entry) → IsTrue told ↔ IsInside e.point region → told ≡ is_inside region e
inside-is told region e h = both_ways told (is_inside region e) (λ t. inside-from region e (h.0 t)) (λ t. h.1 (inside-told region e t))

-- ---- boxes

abbrev overlap : Region → Bounds → ℕ → Bool
overlap region b i = nat_le (max (slice_index b.low i) (slice_index region.bounds.low i)) (min (slice_index b.high i) (slice_index region.bounds.high i))

pub met-from : (region : Region) (b : Bounds)
    → ((i : ℕ) → i < 8 → max (slice_index b.low i) (slice_index region.bounds.low i) ≤ min (slice_index b.high i) (slice_index region.bounds.high i)) → is_met region b ≡ true
unfolding is_met
met-from region b h = each-eight (overlap region b)
    (λ i lt. le-leb (max (slice_index b.low i) (slice_index region.bounds.low i)) (min (slice_index b.high i) (slice_index region.bounds.high i)) (h i lt))

pub met-told : (region : Region) (b : Bounds) → is_met region b ≡ true → ShareAPlace b region.bounds
unfolding is_met
met-told region b h =
    let start : ℕ → ℕ = λ i. max (slice_index b.low i) (slice_index region.bounds.low i) in
    let here : (i : ℕ) → i < 8 → start i ≤ min (slice_index b.high i) (slice_index region.bounds.high i)
    = λ i lt. leb-true (start i) (min (slice_index b.high i) (slice_index region.bounds.high i)) (eight-each (overlap region b) h i lt) in
    let at : (i : ℕ) → i < 8 → slice_index (map start (range_with_len 0 8)) i ≡ start i = λ i lt. get_or-map-range_with_len start 0 8 i i 0 lt (omega arith) in
    record {
      at = map start (range_with_len 0 8);
      eight = length-map-range_with_len start 0 8;
      first = λ i lt. (omega (arith, at i lt), omega (arith, at i lt, here i lt));
      second = λ i lt. (omega (arith, at i lt), omega (arith, at i lt, here i lt));
    }

pub met-is : (told : Bool) (region : Region) (b : Bounds) → IsTrue told ↔ ShareAPlace b region.bounds → told ≡ is_met region b
met-is told region b h = both_ways told (is_met region b)
    (λ t. let share = h.0 t in met-from region b (λ i lt. let one = share.first i lt in let two = share.second i lt in omega (arith, one.0, one.1, two.0, two.1)))
    (λ t. h.1 (met-told region b t))
