-- A number meets tests exactly where it lies between their ends.
use Rattle.std.proofs.Common.{◌≡◌, ℕ, zero, suc, ◌+◌, ◌≤◌, min, max, Bool, true, false, not, cond, ◌&&◌, ◌||◌, List, [], ◌∷◌, ℤ, pos, negsuc, ◌+ℤ◌, refl, sym, ◌∙◌, ap, arith}
use Rattle.std.specs.Prelude.{nat_lt, nat_le, int_lt, int_le}
use Rattle.std.specs.Ordering.{int_eq}
use Rattle.std.proofs.lemmas.Bool.Decides.{nat_tests}
use Rattle.std.proofs.lemmas.Int.{ints}
use Rattle.fact_model.specs.declared.fact.Value.TheVariants.{Number}
use Rattle.fact_model.specs.Limits.{number_limit}
use Rattle.sql_lang.specs.declared.query.Operand.TheVariants as operand
use Rattle.sql_lang.specs.declared.query.Sign.{Sign}
use Rattle.sql_lang.specs.declared.query.Sign.TheVariants.{Equal, Less, LessEqual, More, MoreEqual}
use Rattle.sql_lang.specs.declared.query.Test.{Test}
use Rattle.sql_lang.specs.declared.query.Test.TheVariants.{Compare, Between, OneOf}
use Rattle.sql_slice.specs.Ends.{clamped, behind, start_by, end_by, start_of, end_of, start_in, end_in, number_end}
use Rattle.sql_slice.specs.Plans.{bounds, passes_all}
use Rattle.sql_lang.specs.Tests.{stands, passes, is_list}

-- the end is within the limit
pub end_low : (a : ℕ) (tests : List Test) → end_in a tests ≤ number_end
end_low a [] = omega arith
end_low a (t ∷ tests) = omega (arith, end_low a tests)

-- a number is within the limit
module _ (n : ℕ) (small : n ≤ number_limit) where
  below-clamped : (z : ℤ) → nat_lt n (clamped z) ≡ int_lt (pos n) z
  below-clamped (pos m) = grind (arith, nat_tests)
  below-clamped (negsuc m) = grind (arith, nat_tests)

  from-clamped : (z : ℤ) → nat_le (clamped z) n ≡ int_le z (pos n)
  from-clamped (pos m) = grind (arith, nat_tests)
  from-clamped (negsuc m) = grind (arith, nat_tests)

  behind-pos : (m : ℕ) → behind (pos m) ≡ min (m + 1) number_end
  behind-pos m = refl

  behind-neg : (m : ℕ) → behind (negsuc m) ≡ 0
  behind-neg zero = refl
  behind-neg (suc m) = let less : negsuc (suc m) +ℤ pos 1 ≡ negsuc m = omega (arith, ints) in ap clamped less

  below-behind : (z : ℤ) → nat_lt n (behind z) ≡ int_le (pos n) z
  below-behind (pos m) = grind (arith, nat_tests)
  below-behind (negsuc m) = ap (nat_lt n) (behind-neg m) ∙ grind (arith, nat_tests)

  from-behind : (z : ℤ) → nat_le (behind z) n ≡ int_lt z (pos n)
  from-behind (pos m) = grind (arith, nat_tests)
  from-behind (negsuc m) = ap (λ k. nat_le k n) (behind-neg m) ∙ grind (arith, nat_tests)

  equal-both : (z : ℤ) → int_eq (pos n) z ≡ (int_le z (pos n) && int_le (pos n) z)
  equal-both (pos m) = grind (arith, nat_tests)
  equal-both (negsuc m) = grind (arith, nat_tests)

  zero-le : nat_le 0 n ≡ true
  zero-le = grind (arith, nat_tests)

  from-zero : (b : Bool) → (nat_le 0 n && b) ≡ b
  from-zero b = ap (λ c. c && b) zero-le

  to-end : (b : Bool) → b ≡ (b && nat_lt n number_end)
  to-end true = grind (arith, nat_tests)
  to-end false = refl

  no-ends : true ≡ (nat_le 0 n && nat_lt n number_end)
  no-ends = to-end true ∙ sym (from-zero (nat_lt n number_end))

  stands-ends : (sign : Sign) (z : ℤ) → stands sign (pos n) z ≡ (nat_le (start_by sign z) n && nat_lt n (end_by sign z))
  stands-ends Equal z = equal-both z ∙ (λ i. sym (from-clamped z) i && sym (below-behind z) i)
  stands-ends Less z = sym (below-clamped z) ∙ sym (from-zero (nat_lt n (clamped z)))
  stands-ends LessEqual z = sym (below-behind z) ∙ sym (from-zero (nat_lt n (behind z)))
  stands-ends More z = sym (from-behind z) ∙ to-end (nat_le (behind z) n)
  stands-ends MoreEqual z = sym (from-clamped z) ∙ to-end (nat_le (clamped z) n)

  -- no number is a text
  no-text : false ≡ (nat_le 0 n && nat_lt n 0)
  no-text = grind (arith, nat_tests)

  -- a test other than IN
  passes-ends : (t : Test) → is_list t ≡ false → passes t (Number n) ≡ (nat_le (start_of t) n && nat_lt n (end_of t))
  passes-ends (Compare a sign (operand.Whole z)) plain = stands-ends sign z
  passes-ends (Compare a Equal (operand.Word text)) plain = no-text
  passes-ends (Compare a Less (operand.Word text)) plain = no-text
  passes-ends (Compare a LessEqual (operand.Word text)) plain = no-text
  passes-ends (Compare a More (operand.Word text)) plain = no-text
  passes-ends (Compare a MoreEqual (operand.Word text)) plain = no-text
  passes-ends (Between a low high) plain = (λ i. sym (from-clamped low) i && sym (below-behind high) i)
  passes-ends (OneOf a values) plain = cc

  -- one test more
  four : (p q r s : Bool) → ((p && q) && (r && s)) ≡ ((p && r) && (q && s))
  four true true r s = refl
  four true false true s = refl
  four true false false s = refl
  four false q r s = refl

  max-le : (a b : ℕ) → (nat_le a n && nat_le b n) ≡ nat_le (max a b) n
  max-le a b = grind (arith, nat_tests)

  min-lt : (a b : ℕ) → (nat_lt n a && nat_lt n b) ≡ nat_lt n (min a b)
  min-lt a b = grind (arith, nat_tests)

  -- the test, if it is on the attribute
  abbrev start_on : ℕ → Test → ℕ
  start_on a t = cond (bounds a t) (start_of t) 0

  abbrev end_on : ℕ → Test → ℕ
  end_on a t = cond (bounds a t) (end_of t) number_end

  test-ends : (a : ℕ) (t : Test) → (bounds a t ≡ true → passes t (Number n) ≡ (nat_le (start_of t) n && nat_lt n (end_of t)))
      → (not (bounds a t) || passes t (Number n)) ≡ (nat_le (start_on a t) n && nat_lt n (end_on a t))
  test-ends a t h = by (bounds a t) refl
    where
      by : (b : Bool) → bounds a t ≡ b → (not b || passes t (Number n)) ≡ (nat_le (cond b (start_of t) 0) n && nat_lt n (cond b (end_of t) number_end))
      by true e = h e
      by false e = no-ends

  bound-plain : (a : ℕ) (t : Test) → bounds a t ≡ true → is_list t ≡ false
  bound-plain a (Compare b sign v) e = refl
  bound-plain a (Between b low high) e = refl
  bound-plain a (OneOf b values) e = cc

  pub number-ends : (a : ℕ) (tests : List Test) → passes_all a tests n ≡ (nat_le (start_in a tests) n && nat_lt n (end_in a tests))
  number-ends a [] = no-ends
  number-ends a (t ∷ tests) =
      let here = test-ends a t (λ e. passes-ends t (bound-plain a t e)) in
      (λ i. here i && number-ends a tests i)
      ∙ four (nat_le (start_on a t) n) (nat_lt n (end_on a t)) (nat_le (start_in a tests) n) (nat_lt n (end_in a tests))
      ∙ (λ i. max-le (start_on a t) (start_in a tests) i && min-lt (end_on a t) (end_in a tests) i)
