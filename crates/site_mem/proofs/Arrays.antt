-- Four files in an array.
use Rattle.std.proofs.Common.{◌≡◌, ◌≢◌, get_or, inl, inr, ℕ, zero, suc, ◌<◌, ◌≤◌, List, [], ◌∷◌, length, set, refl, sym, ◌∙◌, ap, subst, arith, Vec}
use Rattle.std.proofs.lemmas.Bool.{cases_eq}
use Rattle.std.specs.declared.alloc.Global.{Global}
use Rattle.site_core.specs.Disk.{Files, with_file}
use Rattle.site_core.proofs.Files.{with_file-same, with_file-other}
use Rattle.site_mem.specs.History.{files_of, texts_of}

set_same : (files : List (Vec ℕ Global)) (file : ℕ) (v : Vec ℕ Global) → file < length files → files_of (set files file v) file ≡ v.items
set_same [] file v low = absurd (omega arith)
set_same (u ∷ files) zero v low = refl
set_same (u ∷ files) (suc file) v low = set_same files file v (omega arith)

set_other : (files : List (Vec ℕ Global)) (file : ℕ) (v : Vec ℕ Global) (g : ℕ) → g ≢ file → files_of (set files file v) g ≡ files_of files g
set_other [] file v g other = refl
set_other (u ∷ files) zero v zero other = absurd (other refl)
set_other (u ∷ files) zero v (suc g) other = refl
set_other (u ∷ files) (suc file) v zero other = refl
set_other (u ∷ files) (suc file) v (suc g) other = set_other files file v g (λ same. other (ap suc same))

set_at : (files : List (Vec ℕ Global)) (file : ℕ) (v : Vec ℕ Global) → file < length files → (g : ℕ) → files_of (set files file v) g ≡ with_file (files_of files) file v.items g
set_at files file v low g = elim (cases_eq g file) [
  | inl same ↦ subst (λ k. files_of (set files file v) k ≡ with_file (files_of files) file v.items k) (sym same) (set_same files file v low ∙ sym (with_file-same (files_of files) file v.items))
  | inr other ↦ set_other files file v g other ∙ sym (with_file-other (files_of files) file v.items g other)
]

-- a file is exchanged
pub files_of-set : (files : List (Vec ℕ Global)) (file : ℕ) (v : Vec ℕ Global) → file < length files → files_of (set files file v) ≡ with_file (files_of files) file v.items
files_of-set files file v low = λ i. λ g. set_at files file v low g i

own_at : (files : Files) (file g : ℕ) → with_file files file (files file) g ≡ files g
own_at files file g = elim (cases_eq g file) [
  | inl same ↦ subst (λ k. with_file files file (files file) k ≡ files k) (sym same) (with_file-same files file (files file))
  | inr other ↦ with_file-other files file (files file) g other
]

-- for one with the same bytes
pub files_of-set_same : (files : List (Vec ℕ Global)) (file : ℕ) (v : Vec ℕ Global) → file < length files → v.items ≡ files_of files file → files_of (set files file v) ≡ files_of files
files_of-set_same files file v low same = files_of-set files file v low ∙ ap (with_file (files_of files) file) same ∙ (λ i. λ g. own_at (files_of files) file g i)

pub files_of-at : (files : List (Vec ℕ Global)) (file : ℕ) (d : Vec ℕ Global) → file < length files → (get_or files file d).items ≡ files_of files file
files_of-at [] file d low = absurd (omega arith)
files_of-at (u ∷ files) zero d low = refl
files_of-at (u ∷ files) (suc file) d low = files_of-at files file d (omega arith)

pub files_of-past : (files : List (Vec ℕ Global)) (file : ℕ) → length files ≤ file → files_of files file ≡ []
files_of-past [] file high = refl
files_of-past (u ∷ files) zero high = absurd (omega arith)
files_of-past (u ∷ files) (suc file) high = files_of-past files file (omega arith)

pub texts_of-past : (texts : List (List ℕ)) (file : ℕ) → length texts ≤ file → texts_of texts file ≡ []
texts_of-past [] file high = refl
texts_of-past (text ∷ texts) zero high = absurd (omega arith)
texts_of-past (text ∷ texts) (suc file) high = texts_of-past texts file (omega arith)

-- four files, one by one
module _ (files : Files) (none : (file : ℕ) → 4 ≤ file → files file ≡ []) where
  pub files_of-four : (a b c d : Vec ℕ Global) → a.items ≡ files 0 → b.items ≡ files 1 → c.items ≡ files 2 → d.items ≡ files 3 → files_of (a ∷ b ∷ c ∷ d ∷ []) ≡ files
  files_of-four a b c d is0 is1 is2 is3 = λ i. λ file. four file i where
    four : (file : ℕ) → files_of (a ∷ b ∷ c ∷ d ∷ []) file ≡ files file
    four zero = is0
    four (suc zero) = is1
    four (suc (suc zero)) = is2
    four (suc (suc (suc zero))) = is3
    four (suc (suc (suc (suc file)))) = sym (none (suc (suc (suc (suc file)))) (omega arith))

  pub texts_of-four : (a b c d : List ℕ) → a ≡ files 0 → b ≡ files 1 → c ≡ files 2 → d ≡ files 3 → texts_of (a ∷ b ∷ c ∷ d ∷ []) ≡ files
  texts_of-four a b c d is0 is1 is2 is3 = λ i. λ file. four file i where
    four : (file : ℕ) → texts_of (a ∷ b ∷ c ∷ d ∷ []) file ≡ files file
    four zero = is0
    four (suc zero) = is1
    four (suc (suc zero)) = is2
    four (suc (suc (suc zero))) = is3
    four (suc (suc (suc (suc file)))) = sym (none (suc (suc (suc (suc file)))) (omega arith))
