-- A range is its file, its place and its bytes.
use Rattle.std.proofs.Common.{◌≡◌, ◌+◌, ◌<◌, ◌^◌, inl, inr, min, ℕ, List, ◌++◌, length, take, drop, subst, sym, ◌∙◌, ap, arith}
use Rattle.std.proofs.Math.Bridge.{le_prop}
use Rattle.std.proofs.lemmas.Bool.{cases_lt}
use Rattle.std.proofs.lemmas.List.{take_all, drop_all}
use Rattle.site_core.specs.Disk.{overwritten}
use Rattle.site_mem.specs.declared.step.Range.{Range}

pub same_range : (r : Range) (bytes : List ℕ) → r.bytes ≡ bytes → (within : r.file < 4) (fits : r.at + length bytes + 1 < 2 ^ 64)
    → r ≡ record { file = r.file; at = r.at; bytes = bytes; within = within; fits = fits }
same_range r bytes is = subst (λ b. (within : r.file < 4) (fits : r.at + length b + 1 < 2 ^ 64) → r ≡ record { file = r.file; at = r.at; bytes = b; within = within; fits = fits }) is
    (λ within fits. λ i. record { file = r.file; at = r.at; bytes = r.bytes; within = le_prop r.within within i; fits = le_prop r.fits fits i })

-- bytes at a place past the end are put at the end
pub overwritten-min : (old : List ℕ) (at : ℕ) (bytes : List ℕ) → overwritten old (min at (length old)) bytes ≡ overwritten old at bytes
overwritten-min old at bytes = elim (cases_lt at (length old)) [
  | inl low ↦ let same : min at (length old) ≡ at = omega arith in ap (λ m. overwritten old m bytes) same
  | inr high ↦
      let same : min at (length old) ≡ length old = omega arith in
      ap (λ m. overwritten old m bytes) same
      ∙ ap (λ (l : List ℕ). l ++ bytes ++ drop (length old + length bytes) old) (take_all (length old) old (omega arith) ∙ sym (take_all at old high))
      ∙ ap (λ (l : List ℕ). take at old ++ bytes ++ l) (drop_all (length old + length bytes) old (omega arith) ∙ sym (drop_all (at + length bytes) old (omega arith)))
]
