-- Which formats may hold the facts of a batch.
use Rattle.std.proofs.Common.{◌≡◌, ◌≤◌, ℕ, zero, suc, Bool, true, false, cond, List, [], ◌∷◌, ◌++◌, get_or, refl, sym, subst, arith}
use Rattle.std.specs.List.{All, list_all}
use Rattle.std.proofs.lemmas.Bool.{and_parts, leb-true}
use Rattle.std.proofs.lemmas.List.Sums.{AllPass-from_list_all}
use Rattle.fact_model.specs.declared.fact.Fact.{Fact}
use Rattle.fact_model.specs.declared.fact.Value.{Value}
use Rattle.fact_model.specs.declared.fact.Value.TheVariants.{Word, Number}
use Rattle.fact_model.specs.Limits.{IsWithin}
use Rattle.page_fmt.specs.Formats.{wide_format}
use Rattle.spec_points.specs.Agree.{narrow_limit}
use Rattle.spec_points.proofs.Members.{every-append, every-from_All, All-from_every}
use Rattle.spec_store.specs.Held.{FitsFormat, HasNarrowNumbers, are_narrow, format_for, is_narrow}
use Rattle.spec_store.proofs.Storable.{any-wide}

-- what may hold the accepted facts and a batch may hold both
fits_more : (format : ℕ) (accepted batch : List Fact) → FitsFormat format accepted → FitsFormat format batch → FitsFormat format (accepted ++ batch)
fits_more format accepted batch old new = record {
  narrow = λ below. All-from_every HasNarrowNumbers (accepted ++ batch)
      (every-append HasNarrowNumbers accepted batch (every-from_All HasNarrowNumbers accepted (old.narrow below)) (every-from_All HasNarrowNumbers batch (new.narrow below)));
}

one-narrow : (v : Value) → is_narrow v ≡ true → IsWithin narrow_limit v
one-narrow (Word t) is = tt
one-narrow (Number n) is = leb-true n narrow_limit is

-- a value that is not there is the number 0
value-narrow : (vs : List Value) (a : ℕ) → list_all is_narrow vs ≡ true → IsWithin narrow_limit (get_or vs a (Number 0))
value-narrow [] a all = omega arith
value-narrow (v ∷ vs) zero all = one-narrow v (and_parts (is_narrow v) (list_all is_narrow vs) all).0
value-narrow (v ∷ vs) (suc a) all = value-narrow vs a (and_parts (is_narrow v) (list_all is_narrow vs) all).1

-- facts whose values are narrow have narrow numbers
facts-narrow : (facts : List Fact) → are_narrow facts ≡ true → All HasNarrowNumbers facts
facts-narrow facts all = λ i d low. λ a.
    value-narrow (get_or facts i d).values a (AllPass-from_list_all (λ (x : Fact). list_all is_narrow x.values) facts all i d low)

fits-by : (narrow : Bool) (format : ℕ) (accepted batch : List Fact) → are_narrow batch ≡ narrow → FitsFormat format accepted
    → FitsFormat (cond narrow format wide_format) (accepted ++ batch)
fits-by true format accepted batch is fits = fits_more format accepted batch fits (record { narrow = λ below. facts-narrow batch is })
fits-by false format accepted batch is fits = any-wide (accepted ++ batch)

later-by : (narrow : Bool) (format : ℕ) → format ≤ wide_format → format ≤ cond narrow format wide_format
later-by true format known = omega arith
later-by false format known = known

known-by : (narrow : Bool) (format : ℕ) → format ≤ wide_format → cond narrow format wide_format ≤ wide_format
known-by true format known = known
known-by false format known = omega arith

-- the format that takes a batch in
module _ (format next : ℕ) (batch : List Fact) (is : next ≡ format_for format batch) where
  -- is no earlier one
  pub format-later : format ≤ wide_format → format ≤ next
  format-later known = omega (arith, is, later-by (are_narrow batch) format known)

  -- and one that there is
  pub format-known : format ≤ wide_format → next ≤ wide_format
  format-known known = omega (arith, is, known-by (are_narrow batch) format known)

  -- its pages may hold the accepted facts and the batch
  pub format-fits_all : (accepted : List Fact) → FitsFormat format accepted → FitsFormat next (accepted ++ batch)
  format-fits_all accepted fits = subst (λ (f : ℕ). FitsFormat f (accepted ++ batch)) (sym is) (fits-by (are_narrow batch) format accepted batch refl fits)

  -- and the batch alone
  pub format-fits : FitsFormat next batch
  format-fits = format-fits_all [] (record { narrow = λ below. λ i d low. absurd (omega (arith, low)) })
