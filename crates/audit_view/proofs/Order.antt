-- Points in order, and where one of them stands.
use Rattle.std.proofs.Common.{◌≡◌, ◌≤◌, ◌<◌, ◌+◌, inl, inr, ℕ, zero, suc, true, List, [], ◌∷◌, length, map, get_or, refl, sym, ap, ◌∙◌, arith, true≢false}
use Rattle.std.specs.declared.cmp.Ordering.{Ordering}
use Rattle.std.specs.declared.cmp.Ordering.TheVariants.{Less, Equal, Greater}
use Rattle.std.specs.Ordering.{is_eq, is_lt}
use Rattle.std.proofs.lemmas.Bool.{cases_lt}
use Rattle.std.proofs.lemmas.List.{get_or_default}
use Rattle.cube_point.specs.declared.point.Entry.{Entry}
use Rattle.cube_point.specs.Points.{point_cmp}
use Rattle.cube_point.proofs.PointOrder.{point-only, point-total}
use Rattle.page_entry.specs.Entries.{ascend, entry_before}
use Rattle.page_entry.proofs.Tests.{and-both}
use Rattle.row_fold.specs.Ascends.{Ascends, Below}
use Rattle.row_fold.proofs.Groups.{below-through, greater-from_less, less-from_greater}
use Rattle.spec_points.specs.Entries.{pair_of}
use Rattle.audit_view.specs.Totals.{IsNowhere, StandsAt}

is-less : (r : Ordering) → is_lt r ≡ true → r ≡ Less
is-less Less e = refl
is-less Equal e = absurd (true≢false (sym e))
is-less Greater e = absurd (true≢false (sym e))

before-less : (a b : Entry) → entry_before a b ≡ true → point_cmp a.point.at b.point.at ≡ Less
unfolding entry_before
before-less a b h = is-less (point_cmp a.point.at b.point.at) h

-- points in order are so as pairs
pub ascends-from : (cs : List Entry) → ascend entry_before cs ≡ true → Ascends point_cmp (map pair_of cs)
ascends-from [] h = tt
ascends-from (c ∷ []) h = (tt, tt)
ascends-from (c ∷ d ∷ cs) h =
    let both = and-both (entry_before c d) (ascend entry_before (d ∷ cs)) h in
    let rest = ascends-from (d ∷ cs) both.1 in
    let less = before-less c d both.0 in
    ((less, below-through point_cmp point-total point-only c.point.at d.point.at (map pair_of cs) less rest.0), rest)

below-at : (p : List ℕ) (cs : List Entry) → Below point_cmp p (map pair_of cs) → (i : ℕ) (d : Entry) → i < length cs → point_cmp p (get_or cs i d).point.at ≡ Less
below-at p [] b i d lt = absurd (omega (arith, lt))
below-at p (c ∷ cs) b zero d lt = b.0
below-at p (c ∷ cs) b (suc i) d lt = below-at p cs b.1 i d (omega (arith, lt))

pub pair-less : (cs : List Entry) → Ascends point_cmp (map pair_of cs) → (i j : ℕ) (d e : Entry) → i < j → j < length cs → point_cmp (get_or cs i d).point.at (get_or cs j e).point.at ≡ Less
pair-less [] a i j d e lt inside = absurd (omega (arith, inside))
pair-less (c ∷ cs) a i zero d e lt inside = absurd (omega (arith, lt))
pair-less (c ∷ cs) a zero (suc j) d e lt inside = below-at c.point.at cs a.0 j e (omega (arith, inside))
pair-less (c ∷ cs) a (suc i) (suc j) d e lt inside = pair-less cs a.1 i j d e (omega (arith, lt)) (omega (arith, inside))

module _ (cs : List Entry) (p : List ℕ) where
  -- the points before this one come before the place
  abbrev pub IsBelow : ℕ → Type 0
  IsBelow low = (i : ℕ) (d : Entry) → i < low → i < length cs → point_cmp (get_or cs i d).point.at p ≡ Less

  -- those from this one on come behind it
  abbrev pub IsAbove : ℕ → Type 0
  IsAbove high = (i : ℕ) (d : Entry) → high ≤ i → i < length cs → point_cmp (get_or cs i d).point.at p ≡ Greater

  module _ (order : ascend entry_before cs ≡ true) (x : Entry) (middle : ℕ) (is : x ≡ get_or cs middle x) (inside : middle < length cs) where
    at : Ascends point_cmp (map pair_of cs)
    at = ascends-from cs order

    pub less-below : point_cmp x.point.at p ≡ Less → IsBelow (middle + 1)
    less-below less i d lt low = elim (cases_lt i middle) [
      | inl under ↦ point-total.trans (get_or cs i d).point.at (get_or cs middle x).point.at p (pair-less cs at i middle d x under inside) (ap (λ (e : Entry). point_cmp e.point.at p) (sym is) ∙ less)
      | inr not ↦
          let same : middle ≡ i = omega (arith, lt, not) in
          ap (λ (n : ℕ). point_cmp (get_or cs n d).point.at p) (sym same) ∙ (ap (λ (e : Entry). point_cmp e.point.at p) (get_or_default cs middle d x inside ∙ sym is) ∙ less)
    ]

    pub greater-above : point_cmp x.point.at p ≡ Greater → IsAbove middle
    greater-above greater i d le low = elim (cases_lt middle i) [
      | inl over ↦
          let back : point_cmp p (get_or cs middle x).point.at ≡ Less = less-from_greater point_cmp point-total point-only (get_or cs middle x).point.at p (ap (λ (e : Entry). point_cmp e.point.at p) (sym is) ∙ greater) in
          greater-from_less point_cmp point-total point-only p (get_or cs i d).point.at (point-total.trans p (get_or cs middle x).point.at (get_or cs i d).point.at back (pair-less cs at middle i x d over low))
      | inr not ↦
          let same : middle ≡ i = omega (arith, le, not) in
          ap (λ (n : ℕ). point_cmp (get_or cs n d).point.at p) (sym same) ∙ (ap (λ (e : Entry). point_cmp e.point.at p) (get_or_default cs middle d x inside ∙ sym is) ∙ greater)
    ]

  -- where all come before or behind it, none stands there
  pub all-apart : (low high : ℕ) → high ≤ low → IsBelow low → IsAbove high → IsNowhere cs p
  all-apart low high le below above i d lt = elim (cases_lt i low) [
    | inl under ↦ ap is_eq (below i d under lt)
    | inr not ↦ ap is_eq (above i d (omega (arith, le, not)) lt)
  ]

-- a point that is compared equal stands there
pub equal-stands : (cs : List Entry) (p : List ℕ) (x : Entry) (n : ℕ) → x ≡ get_or cs n x → n < length cs → point_cmp x.point.at p ≡ Equal → StandsAt cs p n
equal-stands cs p x n is inside equal = record {
  inside = inside;
  there = λ d. ap (λ (e : Entry). e.point.at) (get_or_default cs n d x inside ∙ sym is) ∙ point-only x.point.at p equal;
}
