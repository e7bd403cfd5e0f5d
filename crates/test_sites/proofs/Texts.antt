-- Four texts in an array, as files.
use Rattle.std.proofs.Common.{◌≡◌, ◌≢◌, get_or, inl, inr, ℕ, zero, suc, ◌<◌, List, [], ◌∷◌, length, set, refl, sym, ◌∙◌, ap, subst, arith}
use Rattle.std.proofs.lemmas.Bool.{cases_eq}
use Rattle.site_core.specs.Disk.{with_file}
use Rattle.site_core.proofs.Files.{with_file-same, with_file-other}
use Rattle.site_mem.specs.History.{texts_of}

-- one of the texts is exchanged
text_same : (texts : List (List ℕ)) (file : ℕ) (text : List ℕ) → file < length texts → texts_of (set texts file text) file ≡ text
text_same [] file text low = absurd (omega arith)
text_same (u ∷ texts) zero text low = refl
text_same (u ∷ texts) (suc file) text low = text_same texts file text (omega arith)

text_other : (texts : List (List ℕ)) (file : ℕ) (text : List ℕ) (g : ℕ) → g ≢ file → texts_of (set texts file text) g ≡ texts_of texts g
text_other [] file text g other = refl
text_other (u ∷ texts) zero text zero other = absurd (other refl)
text_other (u ∷ texts) zero text (suc g) other = refl
text_other (u ∷ texts) (suc file) text zero other = refl
text_other (u ∷ texts) (suc file) text (suc g) other = text_other texts file text g (λ same. other (ap suc same))

text_at : (texts : List (List ℕ)) (file : ℕ) (text : List ℕ) → file < length texts → (g : ℕ) → texts_of (set texts file text) g ≡ with_file (texts_of texts) file text g
text_at texts file text low g = elim (cases_eq g file) [
  | inl same ↦ subst (λ k. texts_of (set texts file text) k ≡ with_file (texts_of texts) file text k) (sym same) (text_same texts file text low ∙ sym (with_file-same (texts_of texts) file text))
  | inr other ↦ text_other texts file text g other ∙ sym (with_file-other (texts_of texts) file text g other)
]

pub texts_of-set : (texts : List (List ℕ)) (file : ℕ) (text : List ℕ) → file < length texts → texts_of (set texts file text) ≡ with_file (texts_of texts) file text
texts_of-set texts file text low = λ i. λ g. text_at texts file text low g i

pub texts_of-at : (texts : List (List ℕ)) (file : ℕ) (d : List ℕ) → file < length texts → get_or texts file d ≡ texts_of texts file
texts_of-at [] file d low = absurd (omega arith)
texts_of-at (u ∷ texts) zero d low = refl
texts_of-at (u ∷ texts) (suc file) d low = texts_of-at texts file d (omega arith)
