-- One file of four, and what a write makes of it.
use Rattle.std.proofs.Common.{◌≡◌, ◌≢◌, ℕ, ◌+◌, ◌-◌, min, List, ◌++◌, length, take, drop, slice_index, refl, sym, ◌∙◌, ap, subst, arith, length-append, length-take, length-drop, get_or-take, get_or-drop}
use Rattle.std.proofs.lemmas.List.{get_or_append_left, get_or-append_right}
use Rattle.std.proofs.lemmas.Bool.Decides.{nat_tests}
use Rattle.site_core.specs.Disk.{Files, Torn, TornBytes, with_file, overwritten}

pub with_file-same : (files : Files) (file : ℕ) (bytes : List ℕ) → with_file files file bytes file ≡ bytes
with_file-same files file bytes = grind (arith, nat_tests)

pub with_file-other : (files : Files) (file : ℕ) (bytes : List ℕ) (g : ℕ) → g ≢ file → with_file files file bytes g ≡ files g
with_file-other files file bytes g other = grind (arith, nat_tests)

-- a write that did nothing
pub TornBytes-refl : (at n end : ℕ) (bytes : List ℕ) → TornBytes at n end bytes bytes
TornBytes-refl at n end bytes = record { no_shorter = omega arith; no_longer = omega arith; before = λ i old low. refl; after = λ i old high. refl }

pub Torn-refl : (file at n end : ℕ) (files : Files) → Torn file at n end files files
Torn-refl file at n end files = record { others = λ g other. refl; bytes = TornBytes-refl at n end (files file) }

-- a write that did all
module _ (old : List ℕ) (at : ℕ) (bytes : List ℕ) where
  front : length (take at old ++ bytes) ≡ min at (length old) + length bytes
  front = omega (arith, length-append (take at old) bytes, length-take at old)

  pub length-overwritten : length (overwritten old at bytes) ≡ min at (length old) + length bytes + (length old - (at + length bytes))
  length-overwritten = omega (arith, front, length-append (take at old ++ bytes) (drop (at + length bytes) old), length-drop (at + length bytes) old)

  pub TornBytes-overwritten : TornBytes at (length bytes) (length old) old (overwritten old at bytes)
  TornBytes-overwritten = record {
    no_shorter = omega (arith, length-overwritten);
    no_longer = omega (arith, length-overwritten);
    before = λ i within low.
        let taken = length-take at old in
        get_or_append_left (take at old ++ bytes) _ 0 i (omega (arith, front))
        ∙ get_or_append_left (take at old) bytes 0 i (omega arith) ∙ get_or-take at old i 0 low;
    after = λ i within high.
        let back : at + length bytes + (i - (at + length bytes)) ≡ i = omega arith in
        get_or-append_right (take at old ++ bytes) _ (at + length bytes) i 0 (omega (arith, front)) high
        ∙ get_or-drop (at + length bytes) old (i - (at + length bytes)) 0 ∙ ap (slice_index old) back;
  }

pub Torn-overwritten : (files : Files) (file at : ℕ) (bytes : List ℕ) → Torn file at (length bytes) (length (files file)) files (with_file files file (overwritten (files file) at bytes))
Torn-overwritten files file at bytes = record {
  others = with_file-other files file (overwritten (files file) at bytes);
  bytes = subst (TornBytes at (length bytes) (length (files file)) (files file)) (sym (with_file-same files file (overwritten (files file) at bytes))) (TornBytes-overwritten (files file) at bytes);
}
