-- Numbers as they are written: digits, which need no quotes and are read again.
use Rattle.std.proofs.Common.{◌≡◌, ℕ, zero, suc, ◌+◌, ◌/◌, ◌%◌, ◌^◌, ◌<◌, ◌≤◌, Bool, true, false, cond, List, [], ◌∷◌, length, drop, Some, None, ℤ, pos, negsuc, neg_ℤ, nat_abs, mod-lt, refl, ◌∙◌, ap, arith}
use Rattle.std.specs.Prelude.{◌==◌, ◌&&◌, nat_lt, decimal, slice_index}
use Rattle.std.specs.Char.{is_ascii_digit}
use Rattle.std.specs.Fmt.{digit_glyph, digits, digits_onto, signed_decimal}
use Rattle.std.specs.List.{AllByRecursion, list_all, list_any}
use Rattle.std.specs.Str.Parse.{without_leading_sign, without_leading_plus, starts_with_minus, digits_value, signed_digits_value}
use Rattle.std.proofs.lemmas.Bool.{and_from, lt-ltb, ne_eqb, or_from, cond-false}
use Rattle.std.proofs.lemmas.Bool.Decides.{nat_tests}
use Rattle.std.proofs.lemmas.Fmt.{decimal_is_IsNumeral_wide}
use Rattle.std.proofs.lemmas.Str.Parse.{without_leading_plus_none}
use Rattle.csv.specs.Writing.{default_writer, needs_byte}
use Rattle.fact_model.specs.Fact.{mass_limit}
use Rattle.fact_model.specs.Number.{is_numeral, number_in}

-- ---- digits

abbrev pub IsDigit : ℕ → Type 0
IsDigit b = (48 ≤ b) × (b ≤ 57)

abbrev pub AreDigits : List ℕ → Type 0
AreDigits = AllByRecursion IsDigit

glyph-digit : (n : ℕ) → IsDigit (digit_glyph false (n % 10))
glyph-digit n =
    let low : n % 10 < 10 = mod-lt n (omega arith) in
    let is : digit_glyph false (n % 10) ≡ 48 + n % 10 = ap (λ (b : Bool). cond b (48 + n % 10) (87 + n % 10)) (lt-ltb (n % 10) 10 low) in
    (omega (arith, is), omega (arith, is, low))

onto-digits : (k n : ℕ) (acc : List ℕ) → AreDigits acc → AreDigits (digits_onto k 10 false n acc)
onto-digits zero n acc h = h
onto-digits (suc k) n acc h = by (n / 10 == 0) (onto-digits k (n / 10) (digit_glyph false (n % 10) ∷ acc) (glyph-digit n, h))
  where
    by : (b : Bool) → AreDigits (digits_onto k 10 false (n / 10) (digit_glyph false (n % 10) ∷ acc))
        → AreDigits (cond b (digit_glyph false (n % 10) ∷ acc) (digits_onto k 10 false (n / 10) (digit_glyph false (n % 10) ∷ acc)))
    by true more = (glyph-digit n, h)
    by false more = more

pub decimal-digits : (n : ℕ) → AreDigits (decimal n)
unfolding digits
decimal-digits n = onto-digits 64 n [] tt

-- ---- no quotes

digit-plain : (b : ℕ) → IsDigit b → needs_byte default_writer b ≡ false
digit-plain b h = rw (ne_eqb b 44 (λ e. omega (arith, e, h.0)), ne_eqb b 34 (λ e. omega (arith, e, h.0)), ne_eqb b 13 (λ e. omega (arith, e, h.0)), ne_eqb b 10 (λ e. omega (arith, e, h.0))) refl

pub digits-plain : (ds : List ℕ) → AreDigits ds → list_any (needs_byte default_writer) ds ≡ false
digits-plain [] h = refl
digits-plain (b ∷ ds) h = or_from (needs_byte default_writer b) (list_any (needs_byte default_writer) ds) (digit-plain b h.0) (digits-plain ds h.1)

-- ---- read again

digit-ascii : (b : ℕ) → IsDigit b → is_ascii_digit b ≡ true
digit-ascii b h = let low = h.0 in let high = h.1 in grind (arith, nat_tests)

digits-ascii : (ds : List ℕ) → AreDigits ds → list_all is_ascii_digit ds ≡ true
digits-ascii [] h = refl
digits-ascii (b ∷ ds) h = and_from (is_ascii_digit b) (list_all is_ascii_digit ds) (digit-ascii b h.0) (digits-ascii ds h.1)

module _ (n : ℕ) (low : n ≤ mass_limit) where
  wide : n < 10 ^ 64
  wide = omega arith

  some : 0 < length (decimal n)
  some = (decimal_is_IsNumeral_wide n wide).0.0

  value : digits_value 10 (decimal n) ≡ n
  value = (decimal_is_IsNumeral_wide n wide).1

  pub numeral : (is_numeral (decimal n) && nat_lt (digits_value 10 (decimal n)) (2 ^ 127)) ≡ true
  numeral =
      and_from (is_numeral (decimal n)) (nat_lt (digits_value 10 (decimal n)) (2 ^ 127))
      (and_from (nat_lt 0 (length (decimal n))) (list_all is_ascii_digit (decimal n)) (lt-ltb 0 (length (decimal n)) some) (digits-ascii (decimal n) (decimal-digits n)))
      (ap (λ v. nat_lt v (2 ^ 127)) value ∙ lt-ltb n (2 ^ 127) (omega arith))

first-digit : (ds : List ℕ) → AreDigits ds → 0 < length ds → 48 ≤ slice_index ds 0
first-digit [] h l = absurd (omega arith)
first-digit (b ∷ ds) h l = h.0.0

module _ (n : ℕ) (low : n ≤ mass_limit) where
  from-digit : 48 ≤ slice_index (decimal n) 0
  from-digit = first-digit (decimal n) (decimal-digits n) (some n low)

  unsigned : starts_with_minus (decimal n) ≡ false
  unsigned = ne_eqb (slice_index (decimal n) 0) 45 (λ e. omega (arith, e, from-digit))

  bare : without_leading_sign (decimal n) ≡ decimal n
  bare =
      cond-false (starts_with_minus (decimal n)) (drop 1 (decimal n)) (without_leading_plus (decimal n)) unsigned
      ∙ without_leading_plus_none (decimal n) (λ e. omega (arith, e, from-digit))

  pub natural-again : number_in (decimal n) ≡ Some (pos n)
  natural-again =
      let ds = decimal n in
      let signed : signed_digits_value 10 ds ≡ pos n =
      cond-false (starts_with_minus ds) (neg_ℤ (pos (digits_value 10 (without_leading_sign ds)))) (pos (digits_value 10 (without_leading_sign ds))) unsigned
      ∙ ap (λ t. pos (digits_value 10 t)) bare ∙ ap pos (value n low) in
      ap (λ t. cond (is_numeral t && nat_lt (digits_value 10 t) (2 ^ 127)) (Some (signed_digits_value 10 ds)) None) bare
      ∙ ap (λ b. cond b (Some (signed_digits_value 10 ds)) None) (numeral n low)
      ∙ ap Some signed

negative-again : (n : ℕ) → suc n ≤ mass_limit → number_in (45 ∷ decimal (suc n)) ≡ Some (negsuc n)
negative-again n low =
    ap (λ b. cond b (Some (neg_ℤ (pos (digits_value 10 (decimal (suc n)))))) None) (numeral (suc n) low)
    ∙ ap (λ v. Some (neg_ℤ (pos v))) (value (suc n) low)

pub number-again : (z : ℤ) → nat_abs z ≤ mass_limit → number_in (signed_decimal z) ≡ Some z
number-again (pos n) low = natural-again n low
number-again (negsuc n) low = negative-again n low
