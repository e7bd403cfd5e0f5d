-- Which leaves a region meets where the last dimension alone is bound.
use Rattle.std.proofs.Common.{◌≡◌, inl, inr, ℕ, zero, suc, ◌<◌, ◌≤◌, ◌||◌, nat_le, Bool, true, false, List, [], ◌∷◌, map, length, max, min, refl, sym, ap, ◌∙◌, subst, arith, true≢false}
use Rattle.std.specs.Prelude.{slice_index}
use Rattle.std.proofs.lemmas.Bool.{and_from, and_parts, cases_Bool, cases_eq, cases_lt, le-leb, leb-true, leb-false}
use Rattle.std.proofs.lemmas.List.FromFn.{get_or-map-range_with_len}
use Rattle.std.specs.List.{AllByRecursion, list_any}
use Rattle.cube_point.specs.declared.bounds.Region.{Region}
use Rattle.cube_point.specs.declared.point.Entry.{Entry}
use Rattle.cube_point.specs.declared.point.Shape.{Shape}
use Rattle.page_entry.specs.Stored.{FitsLeaf}
use Rattle.leaf_pack.specs.Cover.{box_of, coordinates, greatest, least}
use Rattle.range_scan.specs.Meeting.{is_inside, is_met}
use Rattle.range_scan.proofs.Tests.{inside-from, met-told}
use Rattle.spec_leaves.specs.Leaves.{IsLastBound}
use Rattle.spec_leaves.proofs.Order.{IsOf, last_of}
use Rattle.spec_leaves.proofs.Touched.{is_hit, is_touched, some-has}

module _ {E : Type 0} (f : E → ℕ) where
  -- some number is at least so great
  any-greatest : (low : ℕ) (es : List E) → 1 ≤ low → low ≤ greatest (map f es) → list_any (λ e. nat_le low (f e)) es ≡ true
  any-greatest low [] some le = absurd (omega (arith, some, le))
  any-greatest low (e ∷ es) some le = elim (cases_Bool (nat_le low (f e))) [
    | inl is ↦ ap (λ (b : Bool). b || list_any (λ e. nat_le low (f e)) es) is
    | inr not ↦
        let above : f e < low = leb-false low (f e) not in
        ap (λ (b : Bool). b || list_any (λ e. nat_le low (f e)) es) not ∙ any-greatest low es some (omega (arith, le, above))
  ]

  -- some number is at most so great
  any-least : (high : ℕ) (es : List E) → 0 < length es → least (map f es) ≤ high → list_any (λ e. nat_le (f e) high) es ≡ true
  any-least high [] some le = absurd (omega (arith, some))
  any-least high (e ∷ []) some le = ap (λ (b : Bool). b || false) (le-leb (f e) high le)
  any-least high (e ∷ d ∷ es) some le = elim (cases_Bool (nat_le (f e) high)) [
    | inl is ↦ ap (λ (b : Bool). b || list_any (λ e. nat_le (f e) high) (d ∷ es)) is
    | inr not ↦
        let above : high < f e = leb-false (f e) high not in
        ap (λ (b : Bool). b || list_any (λ e. nat_le (f e) high) (d ∷ es)) not ∙ any-least high (d ∷ es) (omega arith) (omega (arith, le, above))
  ]

any-some : {E : Type 0} (p : E → Bool) (es : List E) → list_any p es ≡ true → 0 < length es
any-some p [] is = absurd (true≢false (sym is))
any-some p (e ∷ es) is = omega arith

module _ (shape : Shape) (j : ℕ) (region : Region) (bound : IsLastBound shape.wide j region) where
  abbrev pub low_end : ℕ
  low_end = slice_index region.bounds.low j

  abbrev pub high_end : ℕ
  high_end = slice_index region.bounds.high j

  -- the ends of a box that meets the region
  module _ (es : List Entry) (met : is_met region (box_of es) ≡ true) where
    high-side : (i : ℕ) → i < 8 → slice_index region.bounds.low i ≤ greatest (coordinates i es)
    unfolding box_of
    high-side i few =
        let share = met-told region (box_of es) met in
        let one = share.first i few in let two = share.second i few in
        omega (arith, one.1, two.0, get_or-map-range_with_len (λ i. greatest (coordinates i es)) 0 8 i i 0 few (omega arith))

    low-side : (i : ℕ) → i < 8 → least (coordinates i es) ≤ slice_index region.bounds.high i
    unfolding box_of
    low-side i few =
        let share = met-told region (box_of es) met in
        let one = share.first i few in let two = share.second i few in
        omega (arith, one.0, two.1, get_or-map-range_with_len (λ i. least (coordinates i es)) 0 8 i i 0 few (omega arith))

    any-high : list_any (λ (e : Entry). nat_le low_end (slice_index e.point.at j)) es ≡ true
    any-high = any-greatest (λ (e : Entry). slice_index e.point.at j) low_end es bound.last (high-side j bound.few)

    pub met-touched : is_touched (λ (e : Entry). slice_index e.point.at j) low_end high_end es ≡ true
    met-touched = and_from (list_any (λ (e : Entry). nat_le (slice_index e.point.at j) high_end) es) (list_any (λ (e : Entry). nat_le low_end (slice_index e.point.at j)) es)
        (any-least (λ (e : Entry). slice_index e.point.at j) high_end es (any-some (λ (e : Entry). nat_le low_end (slice_index e.point.at j)) es any-high) (low-side j bound.few)) any-high

    -- it has points of the region's arity
    pub met-arity : (arity : ℕ) → AllByRecursion (λ (e : Entry). (e.point.arity ≡ arity) × FitsLeaf shape e) es → arity ≡ suc j
    met-arity arity all = elim (cases_eq arity (suc j)) [
      | inl is ↦ is
      | inr other ↦
          let e = some-has (λ (e : Entry). nat_le low_end (slice_index e.point.at j)) (λ (e : Entry). (e.point.arity ≡ arity) × FitsLeaf shape e) es any-high all in
          let used : 1 ≤ slice_index e.0.point.at j = omega (arith, leb-true low_end (slice_index e.0.point.at j) e.1, bound.last) in
          elim (cases_lt j arity) [
            | inr low ↦ let none = e.2.1.point.unused j (omega (arith, low, e.2.0)) in absurd (omega (arith, used, none))
            | inl high ↦
                let more : suc j < arity = omega (arith, high, other) in
                let eight : suc j < 8 = omega (arith, more, e.2.1.point.arity, e.2.0) in
                let past = bound.past (suc j) (omega arith) eight in
                let d = some-has (λ (e : Entry). nat_le (slice_index e.point.at (suc j)) (slice_index region.bounds.high (suc j))) (λ (e : Entry). (e.point.arity ≡ arity) × FitsLeaf shape e) es
                (any-least (λ (e : Entry). slice_index e.point.at (suc j)) (slice_index region.bounds.high (suc j)) es (any-some (λ (e : Entry). nat_le low_end (slice_index e.point.at j)) es any-high) (low-side (suc j) eight)) all in
                let zero-there : slice_index d.0.point.at (suc j) ≤ slice_index region.bounds.high (suc j) = leb-true (slice_index d.0.point.at (suc j)) (slice_index region.bounds.high (suc j)) d.1 in
                let some-there = d.2.1.point.used (suc j) (omega (arith, more, d.2.0)) in
                absurd (omega (arith, zero-there, some-there, past.1))
          ]
    ]

  -- a point of the arity is inside where its last coordinate is in the range
  pub hit-inside : (e : Entry) → IsOf shape j bound.few e → is_hit (last_of shape j bound.few) low_end high_end e ≡ true → is_inside region e ≡ true
  hit-inside e h is =
      let both = and_parts (nat_le low_end (slice_index e.point.at j)) (nat_le (slice_index e.point.at j) high_end) is in
      inside-from region e (record {
        arity = h.0 ∙ sym bound.arity;
        place = λ i few. elim (cases_lt i j) [
          | inl below ↦
              let sides = bound.before i below in
              (omega (arith, sides.0, h.1.point.used i (omega (arith, below, h.0))), sides.1 (slice_index e.point.at i) (h.1.narrow i))
          | inr not ↦ elim (cases_eq i j) [
            | inl same ↦ subst (λ k. (slice_index region.bounds.low k ≤ slice_index e.point.at k) × (slice_index e.point.at k ≤ slice_index region.bounds.high k)) (sym same)
                (leb-true low_end (slice_index e.point.at j) both.0, leb-true (slice_index e.point.at j) high_end both.1)
            | inr other ↦
                let none = h.1.point.unused i (omega (arith, not, other, h.0)) in
                let past = bound.past i (omega (arith, not, other)) few in
                (omega (arith, none, past.0), omega (arith, none, past.1))
          ]
        ];
      })
