-- The numbers that pass all tests are those from the first up to the end.
use Rattle.std.proofs.Common.{◌≡◌, ℕ, zero, suc, ◌+◌, ◌-◌, ◌<◌, ◌≤◌, min, max, Bool, true, false, cond, ◌&&◌, List, ◌∷◌, filter, refl, sym, ◌∙◌, ap, arith, inl, inr}
use Rattle.std.specs.Prelude.{nat_lt, nat_le, ◌==◌}
use Rattle.std.specs.List.{range_with_len}
use Rattle.std.proofs.lemmas.Bool.{and_parts, cases_Bool, eqb-true, eq-eqb, false_from_ne_true, leb-true, leb-false, ltb-true, ltb-false}
use Rattle.std.proofs.lemmas.Bool.Decides.{nat_tests}
use Rattle.fact_model.specs.declared.fact.Value.TheVariants as value
use Rattle.fact_model.specs.declared.slice.Cond.TheVariants as conds
use Rattle.sql_lang.specs.declared.query.Test.{Test}
use Rattle.sql_slice.specs.Ends.{start_in, end_in, number_cond, number_end}
use Rattle.sql_slice.specs.Plans.{cond_among, last_of, number_count, numbers_in, passes_all}
use Rattle.sql_slice.proofs.EndLaws.{number-ends, end_low}

-- the length of the part of a range from the first up to the end
abbrev part_len : ℕ → ℕ → ℕ → ℕ → ℕ
part_len first past k len = min past (k + len) - max first k

abbrev part : ℕ → ℕ → ℕ → ℕ → List ℕ
part first past k len = range_with_len (max first k) (part_len first past k len)

-- a number from the first up to the end begins the part
begins-part : (first past k len : ℕ) → (nat_le first k && nat_lt k past) ≡ true → k ∷ part first past (k + 1) len ≡ part first past k (suc len)
begins-part first past k len e =
    let each = and_parts (nat_le first k) (nat_lt k past) e in
    let low : first ≤ k = leb-true first k each.0 in
    let high : k < past = ltb-true k past each.1 in
    let here : max first k ≡ k = omega arith in
    let next : max first (k + 1) ≡ k + 1 = omega arith in
    let more : part_len first past k (suc len) ≡ suc (part_len first past (k + 1) len) = omega arith in
    sym ((λ i. range_with_len (here i) (more i)) ∙ ap (λ n. k ∷ range_with_len n (part_len first past (k + 1) len)) (sym next))

-- another does not
skips-part : (first past k len : ℕ) → (nat_le first k && nat_lt k past) ≡ false → part first past (k + 1) len ≡ part first past k (suc len)
skips-part first past k len e = elim (cases_Bool (nat_le first k)) [
  | inl low ↦
      let high : past ≤ k = ltb-false k past (ap (λ b. b && nat_lt k past) (sym low) ∙ e) in
      let none : part_len first past k (suc len) ≡ 0 = omega arith in
      let rest : part_len first past (k + 1) len ≡ 0 = omega arith in
      ap (range_with_len (max first (k + 1))) rest ∙ sym (ap (range_with_len (max first k)) none)
  | inr low ↦
      let below : k < first = leb-false first k low in
      let same : max first (k + 1) ≡ max first k = omega arith in
      let long : part_len first past (k + 1) len ≡ part_len first past k (suc len) = omega arith in
      (λ i. range_with_len (same i) (long i))
]

-- of a range those that pass, where they are those from the first up to the end
those : (p : ℕ → Bool) (first past k len : ℕ) → ((n : ℕ) → k ≤ n → n < k + len → p n ≡ (nat_le first n && nat_lt n past))
    → filter p (range_with_len k len) ≡ part first past k len
those p first past k zero h = let none : 0 ≡ part_len first past k 0 = omega arith in ap (range_with_len (max first k)) none
those p first past k (suc len) h =
    let rest = those p first past (k + 1) len (λ n low high. h n (omega arith) (omega arith)) in
    (λ i. cond (h k (omega arith) (omega arith) i) (k ∷ rest i) (rest i)) ∙ by (nat_le first k && nat_lt k past) refl
  where
    by : (b : Bool) → (nat_le first k && nat_lt k past) ≡ b → cond b (k ∷ part first past (k + 1) len) (part first past (k + 1) len) ≡ part first past k (suc len)
    by true e = begins-part first past k len e
    by false e = skips-part first past k len e

last-range : (n k : ℕ) → last_of n (range_with_len (n + 1) k) ≡ n + k
last-range n zero = omega arith
last-range n (suc k) = last-range (n + 1) k ∙ omega arith

-- no number, one, or several from the first up to the end
cond-range : (a first past k : ℕ) → past - first ≡ k → cond_among a (range_with_len first k) ≡ number_cond a first past
cond-range a first past zero e =
    let none : nat_lt first past ≡ false = grind (arith, nat_tests) in
    ap (λ b. cond b (cond (first + 1 == past) (conds.Equal a (value.Number first)) (conds.Between a first (past - 1))) (conds.Between a 1 0)) (sym none)
cond-range a first past (suc zero) e =
    let some : nat_lt first past ≡ true = grind (arith, nat_tests) in
    let one : (first + 1 == past) ≡ true = eq-eqb (first + 1) past (omega arith) in
    (λ i. cond (sym some i) (cond (sym one i) (conds.Equal a (value.Number first)) (conds.Between a first (past - 1))) (conds.Between a 1 0))
cond-range a first past (suc (suc k)) e =
    let some : nat_lt first past ≡ true = grind (arith, nat_tests) in
    let more : (first + 1 == past) ≡ false = differ (first + 1) past (λ same. omega arith) in
    let last : last_of (first + 1) (range_with_len (first + 1 + 1) k) ≡ past - 1 = last-range (first + 1) k ∙ omega arith in
    ap (conds.Between a first) last
    ∙ (λ i. cond (sym some i) (cond (sym more i) (conds.Equal a (value.Number first)) (conds.Between a first (past - 1))) (conds.Between a 1 0))
  where
    differ : (m n : ℕ) → (m ≡ n → ⊥) → (m == n) ≡ false
    differ m n h = false_from_ne_true (m == n) (λ e. h (eqb-true m n e))

count-is : number_count ≡ number_end
unfolding number_count
count-is = refl

-- the numbers that pass all tests on an attribute are those from the first up to the end
numbers-ends : (a : ℕ) (tests : List Test) → numbers_in a tests ≡ range_with_len (start_in a tests) (end_in a tests - start_in a tests)
numbers-ends a tests =
    let low = end_low a tests in
    let start : max (start_in a tests) 0 ≡ start_in a tests = omega arith in
    let long : part_len (start_in a tests) (end_in a tests) 0 number_count ≡ end_in a tests - start_in a tests = omega (arith, count-is) in
    those (passes_all a tests) (start_in a tests) (end_in a tests) 0 number_count (λ n least high. number-ends n (omega (arith, count-is)) a tests)
    ∙ (λ i. range_with_len (start i) (long i))

-- the condition by the numbers that pass is that by their ends
pub number_among : (a : ℕ) (tests : List Test) → cond_among a (numbers_in a tests) ≡ number_cond a (start_in a tests) (end_in a tests)
number_among a tests = ap (cond_among a) (numbers-ends a tests) ∙ cond-range a (start_in a tests) (end_in a tests) (end_in a tests - start_in a tests) refl
