-- The coordinate of an attribute, by its dimension.
use Rattle.std.proofs.Common.{◌≡◌, ◌≤◌, ◌<◌, ℕ, zero, suc, Bool, true, false, cond, List, [], ◌∷◌, length, refl, ap, ◌∙◌, arith}
use Rattle.std.specs.Prelude.{◌==◌, ◌||◌, slice_index}
use Rattle.std.specs.List.{list_any}
use Rattle.std.proofs.lemmas.Bool.{eq-eqb, ne_eqb}
use Rattle.spec_points.specs.Agree.{among}
use Rattle.spec_points.specs.Answer.{coordinate}
use Rattle.forest_audit.specs.Agreeing.{IsFirstAt}

pub coordinate-at : (view place : List ℕ) (a n : ℕ) → length view ≤ length place → IsFirstAt view a n → coordinate view place a ≡ slice_index place n
coordinate-at [] place a n le first = absurd (omega (arith, first.inside))
coordinate-at (v ∷ view) [] a n le first = absurd (omega (arith, le))
coordinate-at (v ∷ view) (c ∷ place) a zero le first = ap (λ (b : Bool). cond b c (coordinate view place a)) (eq-eqb v a first.here)
coordinate-at (v ∷ view) (c ∷ place) a (suc n) le first =
    ap (λ (b : Bool). cond b c (coordinate view place a)) (ne_eqb v a (first.before 0 (omega arith)))
    ∙ coordinate-at view place a n (omega (arith, le)) (record { inside = omega (arith, first.inside); here = first.here; before = λ i lt. first.before (suc i) (omega (arith, lt)) })

pub among-at : (view : List ℕ) (a n : ℕ) → n < length view → slice_index view n ≡ a → among view a ≡ true
among-at [] a n lt here = absurd (omega (arith, lt))
among-at (v ∷ view) a zero lt here = ap (λ (b : Bool). b || list_any (λ w. w == a) view) (eq-eqb v a here)
among-at (v ∷ view) a (suc n) lt here = or-true (v == a) (list_any (λ w. w == a) view) (among-at view a n (omega (arith, lt)) here)
  where
    or-true : (b c : Bool) → c ≡ true → (b || c) ≡ true
    or-true true c e = refl
    or-true false c e = e

pub not-among : (view : List ℕ) (a : ℕ) → ((n : ℕ) → n < length view → slice_index view n ≡ a → ⊥) → among view a ≡ false
not-among [] a not = refl
not-among (v ∷ view) a not = ap (λ (b : Bool). b || list_any (λ w. w == a) view) (ne_eqb v a (not 0 (omega arith))) ∙ not-among view a (λ n lt. not (suc n) (omega (arith, lt)))
