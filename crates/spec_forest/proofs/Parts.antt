-- The least, the greatest and the sum of some facts' numbers fit, and are zero past the measures.
use Rattle.std.proofs.Common.{◌≡◌, ◌≤◌, ◌-◌, ℕ, zero, suc, true, List, [], ◌∷◌, length, replicate, take, drop, ℤ, pos, ◌≤ℤ◌, nat_abs, sum_by, SFits, refl, ◌∙◌, ap, inl, inr, arith}
use Rattle.std.specs.Int.{w128}
use Rattle.std.specs.Int.Signed.{lt_z}
use Rattle.std.specs.Prelude.{not}
use Rattle.std.specs.List.{AllByRecursion, list_all}
use Rattle.std.proofs.lemmas.Bool.{cases_Bool, and_from}
use Rattle.std.proofs.lemmas.Int.{ints, clamps}
use Rattle.std.proofs.lemmas.List.{get_or_past}
use Rattle.std.proofs.lemmas.List.Sums.{sum_by-cons}
use Rattle.be_numbers.specs.Formats.{AreMany}
use Rattle.fact_model.specs.declared.fact.Fact.{Fact}
use Rattle.fact_model.specs.declared.cell.Part.{Part}
use Rattle.fact_model.specs.Fact.{numbers_at, mass_limit}
use Rattle.fact_model.specs.Numbers.{total, least, greatest}
use Rattle.fact_model.specs.Cell.{part_of}
use Rattle.page_entry.specs.Entries.{no_part, is_part}
use Rattle.page_entry.specs.Stored.{IsPart}

total-size : (zs : List ℤ) → nat_abs (total zs) ≤ sum_by nat_abs zs
total-size [] = omega arith
total-size (z ∷ zs) = omega (arith, ints, total-size zs, sum_by-cons nat_abs z zs)

least-size : (zs : List ℤ) → nat_abs (least zs) ≤ sum_by nat_abs zs
least-size [] = omega arith
least-size (z ∷ []) = omega (arith, sum_by-cons nat_abs z [])
least-size (z ∷ y ∷ zs) = omega (arith, ints, clamps, least-size (y ∷ zs), sum_by-cons nat_abs z (y ∷ zs))

greatest-size : (zs : List ℤ) → nat_abs (greatest zs) ≤ sum_by nat_abs zs
greatest-size [] = omega arith
greatest-size (z ∷ []) = omega (arith, sum_by-cons nat_abs z [])
greatest-size (z ∷ y ∷ zs) = omega (arith, ints, clamps, greatest-size (y ∷ zs), sum_by-cons nat_abs z (y ∷ zs))

least-greatest : (zs : List ℤ) → least zs ≤ℤ greatest zs
least-greatest [] = omega (arith, ints)
least-greatest (z ∷ []) = omega (arith, ints)
least-greatest (z ∷ y ∷ zs) = omega (arith, ints, clamps, least-greatest (y ∷ zs))

small-fits : (z : ℤ) → nat_abs z ≤ mass_limit → SFits w128 z
small-fits z h = omega (arith, ints)

pub part-fits : (zs : List ℤ) → sum_by nat_abs zs ≤ mass_limit → IsPart (part_of zs)
part-fits zs h = record {
  sum = small-fits (total zs) (omega (arith, total-size zs));
  low = small-fits (least zs) (omega (arith, least-size zs));
  high = small-fits (greatest zs) (omega (arith, greatest-size zs));
}

pub not-below : (x y : ℤ) → x ≤ℤ y → not (lt_z y x) ≡ true
not-below x y h = elim (cases_Bool (lt_z y x)) [
  | inl e ↦ absurd (omega (arith, ints))
  | inr e ↦ ap not e
]

pub part-lawful : (zs : List ℤ) → is_part (part_of zs) ≡ true
part-lawful zs = not-below (least zs) (greatest zs) (least-greatest zs)

-- ---- zeros

zero-total : (n : ℕ) → total (replicate n (pos 0)) ≡ pos 0
zero-total zero = refl
zero-total (suc n) = omega (arith, ints, zero-total n)

zero-least : (n : ℕ) → least (replicate n (pos 0)) ≡ pos 0
zero-least zero = refl
zero-least (suc zero) = refl
zero-least (suc (suc n)) = omega (arith, ints, clamps, zero-least (suc n))

zero-greatest : (n : ℕ) → greatest (replicate n (pos 0)) ≡ pos 0
zero-greatest zero = refl
zero-greatest (suc zero) = refl
zero-greatest (suc (suc n)) = omega (arith, ints, clamps, zero-greatest (suc n))

none-there : (m n : ℕ) (facts : List Fact) → n ≤ m → AllByRecursion (λ (x : Fact). length x.measures ≤ n) facts → numbers_at m facts ≡ replicate (length facts) (pos 0)
none-there m n [] le h = refl
none-there m n (x ∷ facts) le h = λ i. get_or_past x.measures m (pos 0) (omega (arith, h.0)) i ∷ none-there m n facts le h.1 i

-- past the measures a part is zero
pub part-none : (m n : ℕ) (facts : List Fact) → n ≤ m → AllByRecursion (λ (x : Fact). length x.measures ≤ n) facts → part_of (numbers_at m facts) ≡ no_part
part-none m n facts le h =
    ap part_of (none-there m n facts le h) ∙ (λ i. record { sum = zero-total (length facts) i; low = zero-least (length facts) i; high = zero-greatest (length facts) i })

-- ---- four parts

-- those that are used, and those that are not
pub four-used : (n : ℕ) (p q r s : Part) → n ≤ 4 → IsPart p → IsPart q → IsPart r → IsPart s → AreMany IsPart n (take n (p ∷ q ∷ r ∷ s ∷ []))
four-used zero p q r s le a b c d = tt
four-used (suc zero) p q r s le a b c d = (a, tt)
four-used (suc (suc zero)) p q r s le a b c d = (a, (b, tt))
four-used (suc (suc (suc zero))) p q r s le a b c d = (a, (b, (c, tt)))
four-used (suc (suc (suc (suc zero)))) p q r s le a b c d = (a, (b, (c, (d, tt))))
four-used (suc (suc (suc (suc (suc n))))) p q r s le a b c d = absurd (omega arith)

pub four-unused : (n : ℕ) (p q r s : Part) → n ≤ 4 → (n ≤ 0 → p ≡ no_part) → (n ≤ 1 → q ≡ no_part) → (n ≤ 2 → r ≡ no_part) → (n ≤ 3 → s ≡ no_part) → drop n (p ∷ q ∷ r ∷ s ∷ []) ≡ replicate (4 - n) no_part
four-unused zero p q r s le a b c d = λ i. a (omega arith) i ∷ b (omega arith) i ∷ c (omega arith) i ∷ d (omega arith) i ∷ []
four-unused (suc zero) p q r s le a b c d = λ i. b (omega arith) i ∷ c (omega arith) i ∷ d (omega arith) i ∷ []
four-unused (suc (suc zero)) p q r s le a b c d = λ i. c (omega arith) i ∷ d (omega arith) i ∷ []
four-unused (suc (suc (suc zero))) p q r s le a b c d = λ i. d (omega arith) i ∷ []
four-unused (suc (suc (suc (suc zero)))) p q r s le a b c d = refl
four-unused (suc (suc (suc (suc (suc n))))) p q r s le a b c d = absurd (omega arith)

pub four-lawful : (n : ℕ) (p q r s : Part) → n ≤ 4 → is_part p ≡ true → is_part q ≡ true → is_part r ≡ true → is_part s ≡ true → list_all is_part (take n (p ∷ q ∷ r ∷ s ∷ [])) ≡ true
four-lawful zero p q r s le a b c d = refl
four-lawful (suc zero) p q r s le a b c d = and_from (is_part p) true a refl
four-lawful (suc (suc zero)) p q r s le a b c d = and_from (is_part p) _ a (and_from (is_part q) true b refl)
four-lawful (suc (suc (suc zero))) p q r s le a b c d = and_from (is_part p) _ a (and_from (is_part q) _ b (and_from (is_part r) true c refl))
four-lawful (suc (suc (suc (suc zero)))) p q r s le a b c d = and_from (is_part p) _ a (and_from (is_part q) _ b (and_from (is_part r) _ c (and_from (is_part s) true d refl)))
four-lawful (suc (suc (suc (suc (suc n))))) p q r s le a b c d = absurd (omega arith)
