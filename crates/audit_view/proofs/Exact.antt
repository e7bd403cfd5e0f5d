-- Cells added up exactly.
use Rattle.std.proofs.Common.{◌≡◌, ◌<◌, ◌+◌, ◌*◌, ◌^◌, ◌+ℤ◌, ◌-ℤ◌, ℕ, ℤ, pos, zero, suc, List, [], ◌∷◌, Option, Some, None, length, get_or, refl, sym, ap, ◌∙◌, arith, subst, SFits}
use Rattle.std.specs.Int.{int_max, int_min, w128}
use Rattle.std.proofs.lemmas.Int.{ints}
use Rattle.fact_model.specs.declared.cell.Cell.{Cell}
use Rattle.fact_model.specs.declared.cell.Part.{Part}
use Rattle.fact_model.specs.Cell.{each_joined, join_parts}
use Rattle.page_entry.specs.Entries.{no_part}
use Rattle.audit_view.specs.declared.total.ExactPart.{ExactPart}
use Rattle.audit_view.specs.declared.total.Total.{Total}
use Rattle.audit_view.specs.Totals.{HoldsCell, HoldsSum, IsCell, exact_part, exact_sum, part_in, plus, total_of, zero_part}

-- a sum that fits is kept in one way alone, but for ups and downs
pub exact-alone : (p : ExactPart) (s : ℤ) → SFits w128 p.low → SFits w128 s → exact_sum p ≡ s → (p.ups ≡ p.downs) × (p.low ≡ s)
unfolding exact_sum
exact-alone p s low fits e = (omega (arith, ints, e), omega (arith, ints, e))

pub exact-of : (q : Part) → part_in (exact_part q) ≡ q
unfolding exact_sum
exact-of q = let sum : (q.sum +ℤ pos (0 * 2 ^ 128)) -ℤ pos (0 * 2 ^ 128) ≡ q.sum = omega (arith, ints) in (λ i. record { sum = sum i; low = q.low; high = q.high })

-- a part that is told is balanced, and has the part's numbers
pub record IsTold (p : ExactPart) (q : Part) : Type 0 where
  pub ups : p.ups ≡ p.downs
  pub low : p.low ≡ q.sum
  pub least : p.least ≡ q.low
  pub greatest : p.greatest ≡ q.high

pub told-from : (p : ExactPart) (q : Part) → SFits w128 p.low → SFits w128 q.sum → part_in p ≡ q → IsTold p q
told-from p q low fits e =
    let alone = exact-alone p q.sum low fits (ap (λ (x : Part). x.sum) e) in
    record { ups = alone.0; low = alone.1; least = ap (λ (x : Part). x.low) e; greatest = ap (λ (x : Part). x.high) e }

pub told-is : (p : ExactPart) (q : Part) → IsTold p q → part_in p ≡ q
unfolding exact_sum
told-is p q is =
    let sum : (p.low +ℤ pos (p.ups * 2 ^ 128)) -ℤ pos (p.downs * 2 ^ 128) ≡ q.sum = omega (arith, ints, is.ups, is.low) in
    (λ i. record { sum = sum i; low = is.least i; high = is.greatest i })

-- what holds of four numbers
pub four-cases : (P : ℕ → Type 0) → P 0 → P 1 → P 2 → P 3 → (m : ℕ) → m < 4 → P m
four-cases P a b c d zero lt = a
four-cases P a b c d (suc zero) lt = b
four-cases P a b c d (suc (suc zero)) lt = c
four-cases P a b c d (suc (suc (suc zero))) lt = d
four-cases P a b c d (suc (suc (suc (suc m)))) lt = absurd (omega (arith, lt))

each-long : (ps qs : List Part) → length ps ≡ length qs → length (each_joined ps qs) ≡ length ps
each-long [] qs same = refl
each-long (p ∷ ps) [] same = absurd (omega (arith, same))
each-long (p ∷ ps) (q ∷ qs) same = ap suc (each-long ps qs (omega (arith, same)))

each-at : (ps qs : List Part) (m : ℕ) → m < length ps → m < length qs → get_or (each_joined ps qs) m no_part ≡ join_parts (get_or ps m no_part) (get_or qs m no_part)
each-at [] qs m low high = absurd (omega (arith, low))
each-at (p ∷ ps) [] m low high = absurd (omega (arith, high))
each-at (p ∷ ps) (q ∷ qs) zero low high = refl
each-at (p ∷ ps) (q ∷ qs) (suc m) low high = each-at ps qs m (omega (arith, low)) (omega (arith, high))

-- a cell more
pub add-holds : (measures : ℕ) (sum : Option Cell) (cell : Cell) (t new : Total) → cell.measures ≡ measures → length cell.parts ≡ 4 → 0 < t.count → HoldsSum measures sum t → new.count ≡ t.count + cell.count
    → ((m : ℕ) → m < 4 → part_in (get_or new.parts m zero_part) ≡ join_parts (part_in (get_or t.parts m zero_part)) (get_or cell.parts m no_part)) → HoldsSum measures (plus sum (Some cell)) new
add-holds measures None cell t new measured four some holds count step = absurd (omega (arith, some, holds))
add-holds measures (Some c) cell t new measured four some holds count step = record {
  count = omega (arith, count, holds.count);
  some = omega (arith, count, some);
  measured = omega (arith, holds.measured, measured);
  four = each-long c.parts cell.parts (omega (arith, holds.four, four)) ∙ holds.four;
  parts = λ m lt. step m lt ∙ (ap (λ (p : Part). join_parts p (get_or cell.parts m no_part)) (holds.parts m lt)
      ∙ sym (each-at c.parts cell.parts m (omega (arith, lt, holds.four)) (omega (arith, lt, four))));
}

-- the first cell
pub first-holds : (measures : ℕ) (sum : Option Cell) (cell : Cell) (t : Total) → cell.measures ≡ measures → length cell.parts ≡ 4 → 0 < cell.count → t.count ≡ 0 → HoldsSum measures sum t
    → HoldsSum measures (plus sum (Some cell)) (total_of cell)
first-holds measures (Some c) cell t measured four some none holds = absurd (omega (arith, none, holds.some))
first-holds measures None cell t measured four some none holds = record {
  count = refl;
  some = some;
  measured = measured;
  four = four;
  parts = four-cases (λ m. part_in (get_or (total_of cell).parts m zero_part) ≡ get_or cell.parts m no_part)
      (exact-of (get_or cell.parts 0 no_part)) (exact-of (get_or cell.parts 1 no_part)) (exact-of (get_or cell.parts 2 no_part)) (exact-of (get_or cell.parts 3 no_part));
}

-- ---- a number more

sum-up : (low sum new : ℤ) (ups downs : ℕ) → new +ℤ pos (2 ^ 128) ≡ low +ℤ sum → (new +ℤ pos ((ups + 1) * 2 ^ 128)) -ℤ pos (downs * 2 ^ 128) ≡ ((low +ℤ pos (ups * 2 ^ 128)) -ℤ pos (downs * 2 ^ 128)) +ℤ sum
sum-up low sum new ups downs h = omega (arith, ints, h)

sum-down : (low sum new : ℤ) (ups downs : ℕ) → new ≡ (low +ℤ sum) +ℤ pos (2 ^ 128) → (new +ℤ pos (ups * 2 ^ 128)) -ℤ pos ((downs + 1) * 2 ^ 128) ≡ ((low +ℤ pos (ups * 2 ^ 128)) -ℤ pos (downs * 2 ^ 128)) +ℤ sum
sum-down low sum new ups downs h = omega (arith, ints, h)

sum-in : (low sum new : ℤ) (ups downs : ℕ) → new ≡ low +ℤ sum → (new +ℤ pos (ups * 2 ^ 128)) -ℤ pos (downs * 2 ^ 128) ≡ ((low +ℤ pos (ups * 2 ^ 128)) -ℤ pos (downs * 2 ^ 128)) +ℤ sum
sum-in low sum new ups downs h = omega (arith, ints, h)

pub up-exact : (p w : ExactPart) (sum : ℤ) → w.low +ℤ pos (2 ^ 128) ≡ p.low +ℤ sum → w.ups ≡ p.ups + 1 → w.downs ≡ p.downs → exact_sum w ≡ exact_sum p +ℤ sum
unfolding exact_sum
up-exact p w sum low ups downs = (λ i. (w.low +ℤ pos (ups i * 2 ^ 128)) -ℤ pos (downs i * 2 ^ 128)) ∙ sum-up p.low sum w.low p.ups p.downs low

pub down-exact : (p w : ExactPart) (sum : ℤ) → w.low ≡ (p.low +ℤ sum) +ℤ pos (2 ^ 128) → w.ups ≡ p.ups → w.downs ≡ p.downs + 1 → exact_sum w ≡ exact_sum p +ℤ sum
unfolding exact_sum
down-exact p w sum low ups downs = (λ i. (w.low +ℤ pos (ups i * 2 ^ 128)) -ℤ pos (downs i * 2 ^ 128)) ∙ sum-down p.low sum w.low p.ups p.downs low

pub in-exact : (p w : ExactPart) (sum : ℤ) → w.low ≡ p.low +ℤ sum → w.ups ≡ p.ups → w.downs ≡ p.downs → exact_sum w ≡ exact_sum p +ℤ sum
unfolding exact_sum
in-exact p w sum low ups downs = (λ i. (w.low +ℤ pos (ups i * 2 ^ 128)) -ℤ pos (downs i * 2 ^ 128)) ∙ sum-in p.low sum w.low p.ups p.downs low

pub same-exact : (p w : ExactPart) → w.low ≡ p.low → w.ups ≡ p.ups → w.downs ≡ p.downs → exact_sum w ≡ exact_sum p
unfolding exact_sum
same-exact p w low ups downs = (λ i. (low i +ℤ pos (ups i * 2 ^ 128)) -ℤ pos (downs i * 2 ^ 128))

pub with-joined : (p s w : ExactPart) (q : Part) → exact_sum s ≡ exact_sum p +ℤ q.sum → w.low ≡ s.low → w.ups ≡ s.ups → w.downs ≡ s.downs → w.least ≡ int_min p.least q.low → w.greatest ≡ int_max p.greatest q.high
    → part_in w ≡ join_parts (part_in p) q
with-joined p s w q sum low ups downs least greatest = (λ i. record { sum = (same-exact s w low ups downs ∙ sum) i; low = least i; high = greatest i })

-- ---- whether a total is a cell

same-four : (xs ys : List Part) → length xs ≡ 4 → length ys ≡ 4 → ((m : ℕ) → m < 4 → get_or xs m no_part ≡ get_or ys m no_part) → xs ≡ ys
same-four (a ∷ b ∷ c ∷ d ∷ []) (e ∷ f ∷ g ∷ h ∷ []) long long_too same =
    let one = same 0 (omega arith) in
    let two = same 1 (omega arith) in
    let three = same 2 (omega arith) in
    let four = same 3 (omega arith) in
    (λ i. one i ∷ two i ∷ three i ∷ four i ∷ [])
same-four [] ys long long_too same = absurd (omega (arith, long))
same-four (a ∷ []) ys long long_too same = absurd (omega (arith, long))
same-four (a ∷ b ∷ []) ys long long_too same = absurd (omega (arith, long))
same-four (a ∷ b ∷ c ∷ []) ys long long_too same = absurd (omega (arith, long))
same-four (a ∷ b ∷ c ∷ d ∷ e ∷ xs) ys long long_too same = absurd (omega (arith, long))
same-four (a ∷ b ∷ c ∷ d ∷ []) [] long long_too same = absurd (omega (arith, long_too))
same-four (a ∷ b ∷ c ∷ d ∷ []) (e ∷ []) long long_too same = absurd (omega (arith, long_too))
same-four (a ∷ b ∷ c ∷ d ∷ []) (e ∷ f ∷ []) long long_too same = absurd (omega (arith, long_too))
same-four (a ∷ b ∷ c ∷ d ∷ []) (e ∷ f ∷ g ∷ []) long long_too same = absurd (omega (arith, long_too))
same-four (a ∷ b ∷ c ∷ d ∷ []) (e ∷ f ∷ g ∷ h ∷ k ∷ ys) long long_too same = absurd (omega (arith, long_too))

module _ (measures : ℕ) (cell : Cell) (t : Total) (some : 0 < cell.count) (measured : cell.measures ≡ measures) (four : length cell.parts ≡ 4) where
  pub cell-is : (sum : Option Cell) → HoldsSum measures sum t → IsCell t cell → sum ≡ Some cell
  cell-is None none is = absurd (omega (arith, none, is.count, some))
  cell-is (Some c) holds is =
      let parts : c.parts ≡ cell.parts = same-four c.parts cell.parts holds.four four (λ m lt. sym (holds.parts m lt) ∙ is.parts m lt) in
      let count : c.count ≡ cell.count = sym holds.count ∙ is.count in
      let same : c.measures ≡ cell.measures = holds.measured ∙ sym measured in
      (λ i. Some (record { count = count i; measures = same i; parts = parts i }))

  pub is-cell : (sum : Option Cell) → HoldsSum measures sum t → sum ≡ Some cell → IsCell t cell
  is-cell sum holds same =
      let here : HoldsCell measures cell t = subst (λ (o : Option Cell). HoldsSum measures o t) same holds in
      record { count = here.count; parts = here.parts }
