-- Numbers as they are written.
use Rattle.std.proofs.Common.{◌≡◌, ℕ, ◌+◌, ◌^◌, ◌<◌, ◌≤◌, Bool, true, false, cond, List, [], ◌∷◌, ◌++◌, length, drop, Some, None, ℤ, pos, neg_ℤ, refl, ◌∙◌, ap, arith}
use Rattle.std.specs.Prelude.{◌==◌, ◌&&◌, ◌||◌, nat_lt, nat_eq, decimal, slice_index}
use Rattle.std.specs.Char.{is_ascii_digit}
use Rattle.std.specs.List.{list_all}
use Rattle.std.specs.Str.Parse.{without_leading_sign, without_leading_plus, starts_with_minus, digits_value, signed_digits_value}
use Rattle.std.proofs.lemmas.Bool.{and_parts, and_from, lt-ltb, le-leb, ne_eqb, cond-false}
use Rattle.std.proofs.lemmas.Bool.Decides.{nat_tests}
use Rattle.std.proofs.lemmas.Fmt.{decimal_nonempty, digits_decimal, digits_value-decimal}
use Rattle.std.proofs.lemmas.Str.Parse.{without_leading_plus_none}
use Rattle.fact_model.specs.Limits.{number_limit}
use Rattle.fact_model.specs.Number.{is_numeral, number_in}
use Rattle.cube_schema.proofs.Again.{digits}
use Rattle.cube_schema.proofs.Tests.{all-at, all-imply}
use Rattle.slice_lang.specs.Values.{is_value_byte, in_range, coordinate_in, place_of_dots}

-- ---- plain decimal
fits : (n : ℕ) → n ≤ number_limit → n < 2 ^ 64
fits n le = omega arith

are-digits : (n : ℕ) → n ≤ number_limit → list_all is_ascii_digit (decimal n) ≡ true
are-digits n le = digits_decimal digits n (fits n le)

some-digits : (n : ℕ) → n ≤ number_limit → 0 < length (decimal n)
some-digits n le = decimal_nonempty n (fits n le)

digit-from : (byte : ℕ) → is_ascii_digit byte ≡ true → 48 ≤ byte
digit-from byte h = grind (arith, nat_tests)

first-from : (n : ℕ) → n ≤ number_limit → 48 ≤ slice_index (decimal n) 0
first-from n le = digit-from (slice_index (decimal n) 0) (all-at is_ascii_digit (decimal n) 0 0 (are-digits n le) (some-digits n le))

unsigned : (n : ℕ) → n ≤ number_limit → starts_with_minus (decimal n) ≡ false
unsigned n le = ne_eqb (slice_index (decimal n) 0) 45 (λ e. (let from = first-from n le in omega arith))

bare : (n : ℕ) → n ≤ number_limit → without_leading_sign (decimal n) ≡ decimal n
bare n le =
    cond-false (starts_with_minus (decimal n)) (drop 1 (decimal n)) (without_leading_plus (decimal n)) (unsigned n le)
    ∙ without_leading_plus_none (decimal n) (λ e. (let from = first-from n le in omega arith))

-- a number in plain decimal is read again
pub number-again : (n : ℕ) → n ≤ number_limit → number_in (decimal n) ≡ Some (pos n)
number-again n le =
    let ds = decimal n in
    let value = digits_value-decimal digits n (fits n le) in
    let test : (is_numeral ds && nat_lt (digits_value 10 ds) (2 ^ 127)) ≡ true =
    and_from (is_numeral ds) (nat_lt (digits_value 10 ds) (2 ^ 127)) (and_from (nat_lt 0 (length ds)) (list_all is_ascii_digit ds) (lt-ltb 0 (length ds) (some-digits n le)) (are-digits n le))
    (ap (λ v. nat_lt v (2 ^ 127)) value ∙ lt-ltb n (2 ^ 127) (omega arith)) in
    let signed : signed_digits_value 10 ds ≡ pos n =
    cond-false (starts_with_minus ds) (neg_ℤ (pos (digits_value 10 (without_leading_sign ds)))) (pos (digits_value 10 (without_leading_sign ds))) (unsigned n le)
    ∙ ap (λ t. pos (digits_value 10 t)) (bare n le) ∙ ap pos value in
    ap (λ t. cond (is_numeral t && nat_lt (digits_value 10 t) (2 ^ 127)) (Some (signed_digits_value 10 ds)) None) (bare n le)
    ∙ ap (λ b. cond b (Some (signed_digits_value 10 ds)) None) test
    ∙ ap Some signed

-- ---- any number
pub coordinate-again : (written : List ℕ) (n : ℕ) → number_in written ≡ Some (pos n) → n ≤ number_limit → coordinate_in written ≡ Some n
coordinate-again written n is le = ap in_range is ∙ ap (λ b. cond b (Some n) None) (le-leb n number_limit le)

-- a digit or a sign
abbrev is_mark : ℕ → Bool
is_mark byte = is_ascii_digit byte || byte == 43 || byte == 45

digit-mark : (b : ℕ) → is_ascii_digit b ≡ true → is_mark b ≡ true
digit-mark b h = grind (arith, nat_tests)

minus-mark : (b : ℕ) → (b == 45) ≡ true → is_mark b ≡ true
minus-mark b h = grind (arith, nat_tests)

plus-mark : (b : ℕ) → (b == 43) ≡ true → is_mark b ≡ true
plus-mark b h = grind (arith, nat_tests)

mark-value : (b : ℕ) → is_mark b ≡ true → is_value_byte b ≡ true
mark-value b h = grind (arith, nat_tests)

mark-no-dot : (b : ℕ) → is_mark b ≡ true → nat_eq 46 b ≡ false
mark-no-dot b h = grind (arith, nat_tests)

numeral-marks : (ds : List ℕ) → is_numeral ds ≡ true → list_all is_mark ds ≡ true
numeral-marks ds h = all-imply is_ascii_digit is_mark digit-mark ds (and_parts (nat_lt 0 (length ds)) (list_all is_ascii_digit ds) h).1

signed-marks : (b : ℕ) (bs : List ℕ) → is_numeral (cond (b == 45) bs (drop (cond (b == 43) 1 0) (b ∷ bs))) ≡ true → list_all is_mark (b ∷ bs) ≡ true
signed-marks b bs =
    elim (b == 45) as (λ t. (b == 45) ≡ t → is_numeral (cond t bs (drop (cond (b == 43) 1 0) (b ∷ bs))) ≡ true → list_all is_mark (b ∷ bs) ≡ true) [
      | true ↦ λ e h. and_from (is_mark b) (list_all is_mark bs) (minus-mark b e) (numeral-marks bs h)
      | false ↦ λ d. elim (b == 43) as (λ t. (b == 43) ≡ t → is_numeral (drop (cond t 1 0) (b ∷ bs)) ≡ true → list_all is_mark (b ∷ bs) ≡ true) [
        | true ↦ λ e h. and_from (is_mark b) (list_all is_mark bs) (plus-mark b e) (numeral-marks bs h)
        | false ↦ λ e h. numeral-marks (b ∷ bs) h
      ] refl
    ] refl

some-if : (b : Bool) (x z : ℤ) → cond b (Some x) None ≡ Some z → b ≡ true
some-if true x z e = refl
some-if false x z e = cc

number-marks : (written : List ℕ) (z : ℤ) → number_in written ≡ Some z → (list_all is_mark written ≡ true) × (0 < length written)
number-marks [] z e = cc
number-marks (b ∷ bs) z e =
    let ds = without_leading_sign (b ∷ bs) in
    let test = some-if (is_numeral ds && nat_lt (digits_value 10 ds) (2 ^ 127)) (signed_digits_value 10 (b ∷ bs)) z e in
    (signed-marks b bs (and_parts (is_numeral ds) (nat_lt (digits_value 10 ds) (2 ^ 127)) test).0, omega arith)

pub number-values : (written : List ℕ) (z : ℤ) → number_in written ≡ Some z → list_all is_value_byte written ≡ true
number-values written z e = all-imply is_mark is_value_byte mark-value written (number-marks written z e).0

pub number-some : (written : List ℕ) (z : ℤ) → number_in written ≡ Some z → 0 < length written
number-some written z e = (number-marks written z e).1

marks-behind : (front rest : List ℕ) → list_all is_mark front ≡ true → place_of_dots (front ++ rest) ≡ length front + place_of_dots rest
marks-behind [] rest h = omega arith
marks-behind (b ∷ bs) rest h =
    let each = and_parts (is_mark b) (list_all is_mark bs) h in
    let next = marks-behind bs rest each.1 in
    rw (mark-no-dot b each.0) (omega arith)

-- no `..` begins within a number
pub dots-behind : (front rest : List ℕ) (z : ℤ) → number_in front ≡ Some z → place_of_dots (front ++ rest) ≡ length front + place_of_dots rest
dots-behind front rest z e = marks-behind front rest (number-marks front z e).0
