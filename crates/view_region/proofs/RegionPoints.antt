-- The search's test keeps the points that the definition's test keeps.
use Rattle.std.proofs.Common.{◌≡◌, ℕ, zero, suc, ◌-◌, ◌<◌, ◌≤◌, true, nat_le, min, List, [], ◌∷◌, ◌++◌, map, length, replicate, refl, sym, ◌∙◌, ap, arith, true≢false, inl, inr}
use Rattle.std.specs.Prelude.{slice_index}
use Rattle.std.specs.List.{AllByRecursion}
use Rattle.std.proofs.lemmas.Bool.{cases_Bool, cases_eq, leb-true, le-leb, and_parts, and_from}
use Rattle.std.proofs.lemmas.List.{length-map, length-append, length-replicate}
use Rattle.fact_model.specs.declared.slice.Cond.{Cond}
use Rattle.cube_point.specs.declared.point.Point.{Point}
use Rattle.cube_point.specs.Boxes.{IsInside}
use Rattle.cube_point.specs.Points.{IsPoint}
use Rattle.spec_points.specs.Answer.{Interval, inside, interval, region, top_coord, within}
use Rattle.spec_points.specs.Arity.{HasArity}
use Rattle.spec_points.specs.Points.{Names, View}
use Rattle.spec_points.proofs.Searches.{no-other_arity}
use Rattle.view_region.specs.Regions.{IsPlaced, clamped, region_from}

-- ---- points

zeros : (at : List ℕ) → ((i : ℕ) → slice_index at i ≡ 0) → at ≡ replicate (length at) 0
zeros [] unused = refl
zeros (c ∷ at) unused = λ i. unused 0 i ∷ zeros at (λ k. unused (suc k)) i

-- used coordinates, and zeros behind them
record Split (n : ℕ) (at : List ℕ) : Type 0 where
  codes : List ℕ
  long : length codes ≡ n
  used : AllByRecursion (λ c. 1 ≤ c) codes
  is : at ≡ codes ++ replicate (length at - n) 0

split : (n : ℕ) (at : List ℕ) → n ≤ length at → ((i : ℕ) → i < n → 0 < slice_index at i) → ((i : ℕ) → n ≤ i → slice_index at i ≡ 0) → Split n at
split zero at low used unused = record { codes = []; long = refl; used = tt; is = zeros at (λ i. unused i (omega arith)) ∙ ap (λ n. replicate n 0) (less (length at)) }
  where
    less : (n : ℕ) → n ≡ n - 0
    less n = omega arith
split (suc n) [] low used unused = absurd (omega arith)
split (suc n) (c ∷ at) low used unused =
    let rest = split n at (omega arith) (λ i l. used (suc i) (omega arith)) (λ i l. unused (suc i) (omega arith)) in
    record {
      codes = c ∷ rest.codes;
      long = ap suc rest.long;
      used = (used 0 (omega arith), rest.used);
      is = ap (λ cs. c ∷ cs) (rest.is ∙ ap (λ m. rest.codes ++ replicate m 0) (same (length at) n));
    }
  where
    same : (m n : ℕ) → m - n ≡ suc m - suc n
    same m n = omega arith

-- a point of eight coordinates has its arity
point-arity : (p : Point) → IsPoint p → length p.at ≡ 8 → HasArity p.arity p.at
point-arity p is eight =
    let parts = split p.arity p.at (omega (arith, is.arity)) is.used is.unused in
    (parts.codes, parts.long, parts.used, parts.is ∙ ap (λ m. parts.codes ++ replicate m 0) (left (length p.at) p.arity (length parts.codes) eight parts.long))
  where
    left : (m n k : ℕ) → m ≡ 8 → k ≡ n → m - n ≡ 8 - k
    left m n k e f = omega arith

-- ---- an interval and what of it are coordinates

within-clamped : (i : Interval) (c : ℕ) → c ≤ top_coord → within i c ≡ true → ((clamped i).0 ≤ c) × (c ≤ (clamped i).1)
within-clamped i c low is =
    let parts = and_parts (nat_le i.0 c) (nat_le c i.1) is in
    let above : i.0 ≤ c = leb-true i.0 c parts.0 in
    let below : c ≤ i.1 = leb-true c i.1 parts.1 in
    elim (cases_Bool (nat_le i.0 top_coord)) [
      | inl e ↦ rw e ((above, omega arith))
      | inr e ↦ absurd (true≢false (sym (le-leb i.0 top_coord (omega arith)) ∙ e))
    ]

clamped-within : (i : Interval) (c : ℕ) → ((clamped i).0 ≤ c) × (c ≤ (clamped i).1) → within i c ≡ true
clamped-within i c is = elim (cases_Bool (nat_le i.0 top_coord)) [
  | inl e ↦ (let both : (i.0 ≤ c) × (c ≤ min i.1 top_coord) = rw e at is in and_from (nat_le i.0 c) (nat_le c i.1) (le-leb i.0 c both.0) (le-leb c i.1 (omega (arith, both.1))))
  | inr e ↦ (let both : (1 ≤ c) × (c ≤ 0) = rw e at is in absurd (omega (arith, both.0, both.1)))
]

-- ---- place by place

abbrev Between : List Interval → List ℕ → Type 0
Between is cs = (i : ℕ) → i < length cs
    → (slice_index (map (λ (i : Interval). (clamped i).0) is) i ≤ slice_index cs i) × (slice_index cs i ≤ slice_index (map (λ (i : Interval). (clamped i).1) is) i)

inside-between : (is : List Interval) (cs : List ℕ) → AllByRecursion (λ c. c ≤ top_coord) cs → inside is cs ≡ true → (i : ℕ) → i < length cs
    → (slice_index (map (λ (i : Interval). (clamped i).0) is) i ≤ slice_index cs i) × (slice_index cs i ≤ slice_index (map (λ (i : Interval). (clamped i).1) is) i)
inside-between [] [] low h i l = absurd (omega arith)
inside-between [] (c ∷ cs) low h i l = absurd (true≢false (sym h))
inside-between (j ∷ is) [] low h i l = absurd (true≢false (sym h))
inside-between (j ∷ is) (c ∷ cs) low h zero l = within-clamped j c low.0 (and_parts (within j c) (inside is cs) h).0
inside-between (j ∷ is) (c ∷ cs) low h (suc i) l = inside-between is cs low.1 (and_parts (within j c) (inside is cs) h).1 i (omega arith)

between-inside : (is : List Interval) (cs : List ℕ) → length is ≡ length cs → Between is cs → inside is cs ≡ true
between-inside [] [] long h = refl
between-inside [] (c ∷ cs) long h = absurd (omega arith)
between-inside (j ∷ is) [] long h = absurd (omega arith)
between-inside (j ∷ is) (c ∷ cs) long h =
    and_from (within j c) (inside is cs) (clamped-within j c (h 0 (omega arith))) (between-inside is cs (omega arith) (λ i l. h (suc i) (omega arith)))

-- ---- the region

module _ (names : Names) (conds : List Cond) (view : View) (few : length view ≤ 8) (p : Point) (is : IsPlaced p) where
  eight-intervals : length (region names conds view) ≡ 8
  eight-intervals = omega (arith, length-append (map (interval names conds) view) (replicate (8 - length view) (0, 0)), length-map view (interval names conds), length-replicate {A = Interval} (8 - length view) (0, 0))

  pub kept-by_definition : IsInside p (region_from (length view) (region names conds view)) → inside (region names conds view) p.at ≡ true
  kept-by_definition h = between-inside (region names conds view) p.at (omega (arith, eight-intervals, is.eight)) (λ i low. h.place i (omega (arith, is.eight)))

  pub kept-by_search : inside (region names conds view) p.at ≡ true → IsInside p (region_from (length view) (region names conds view))
  kept-by_search h = record {
    arity = elim (cases_eq p.arity (length view)) [
      | inl same ↦ same
      | inr other ↦ absurd (true≢false (sym h ∙ no-other_arity names conds view p.arity p.at few is.point.arity other (point-arity p is.point is.eight)))
    ];
    place = λ i low. inside-between (region names conds view) p.at is.coordinates h i (omega (arith, is.eight));
  }
