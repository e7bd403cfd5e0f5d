-- Formats of numbers, of pairs, of many of a kind, and of other types seen as these.
use Rattle.std.proofs.Common.{◌≡◌, ◌≤◌, ◌<◌, ◌+◌, ◌*◌, ◌^◌, ℕ, zero, suc, List, [], ◌∷◌, ◌++◌, length, take, drop, refl, sym, ap, ◌∙◌, arith, append_assoc, SFits}
use Rattle.std.specs.Prelude.{flat_map}
use Rattle.std.proofs.Common.{inl, inr}
use Rattle.std.proofs.lemmas.Bool.{cases_lt}
use Rattle.std.specs.Int.{w128, cast_signed, cast_unsigned}
use Rattle.std.proofs.lemmas.Int.{of_z-to_z}
use Rattle.std.proofs.Math.Facts.{Fits-of_z, to_z-of_z, sfits_to_z}
use Rattle.std.proofs.lemmas.List.{drop_at, drop-take, take-take, take-append-drop, length-append, length-drop, length-take-le, get_or-drop, get_or-take, get_or_past}
use Rattle.byteorder.specs.Endian.{big_bytes, big_number, big_from}
use Rattle.byteorder.specs.Numbers.{big_from-lt, big_from-take, big_number-reads_back, length-bytes_high_first}
use Rattle.be_numbers.specs.Numbers.{coded, number, signed_coded, signed}
use Rattle.be_numbers.specs.Formats.{IsBytes, AreMany, many, pair_write, pair_read, IsFormat}
use Rattle.be_numbers.proofs.Placed.{bytes_of_number}

pub bytes-drop : (n : ℕ) (bytes : List ℕ) → IsBytes bytes → IsBytes (drop n bytes)
bytes-drop n bytes h i = rw get_or-drop (h (n + i))

pub bytes-take : (n : ℕ) (bytes : List ℕ) → IsBytes bytes → n ≤ length bytes → IsBytes (take n bytes)
bytes-take n bytes h le i = elim (cases_lt i n) [
  | inl lt ↦ rw (get_or-take n bytes i 0 lt) (h i)
  | inr past ↦ rw (get_or_past (take n bytes) i 0 (omega (arith, length-take-le n bytes le))) (omega arith)
]

-- numbers

pub is_number : (w : ℕ) → IsFormat w (coded w) (number w) (λ n. n < 256 ^ w)
unfolding coded number
is_number w = record {
  long = λ x fits. length-bytes_high_first w x;
  again = λ x rest fits. big_number-reads_back w x rest fits;
  back = λ bytes are le.
      let len : length (take w bytes) ≡ w = length-take-le w bytes le in
      let same : big_from 0 w (take w bytes) ≡ big_from 0 w bytes = big_from-take 0 w w bytes (omega arith) in
      ap (big_bytes w) (sym same) ∙ (ap (λ (n : ℕ). big_bytes n (big_number n (take w bytes))) (sym len) ∙ bytes_of_number (take w bytes) (bytes-take w bytes are le));
  fits = λ bytes are le. big_from-lt 0 w bytes are;
}

-- one after the other

pub take-add : (m n : ℕ) (bytes : List ℕ) → take m bytes ++ take n (drop m bytes) ≡ take (m + n) bytes
take-add m n bytes =
    let le : m ≤ m + n = omega arith in
    ap (λ (l : List ℕ). l ++ take n (drop m bytes)) (sym (take-take m (m + n) bytes le)) ∙ (ap (λ (l : List ℕ). take m (take (m + n) bytes) ++ l) (sym (drop-take m n bytes)) ∙ take-append-drop m (take (m + n) bytes))

pub is_pair : {A B : Type 0} (m n : ℕ) (w : A → List ℕ) (r : List ℕ → A) (P : A → Type 0) (v : B → List ℕ) (s : List ℕ → B) (Q : B → Type 0)
    → IsFormat m w r P → IsFormat n v s Q → IsFormat (m + n) (pair_write w v) (pair_read m r s) (λ p. P p.0 × Q p.1)
is_pair m n w r P v s Q f g = record {
  long = λ x fits. omega (arith, length-append (w x.0) (v x.1), f.long x.0 fits.0, g.long x.1 fits.1);
  again = λ x rest fits.
      let e = append_assoc (w x.0) (v x.1) rest in
      let one : r ((w x.0 ++ v x.1) ++ rest) ≡ x.0 = ap r e ∙ f.again x.0 (v x.1 ++ rest) fits.0 in
      let two : s (drop m ((w x.0 ++ v x.1) ++ rest)) ≡ x.1 = ap (λ (l : List ℕ). s (drop m l)) e ∙ (ap s (drop_at (w x.0) (v x.1 ++ rest) m (f.long x.0 fits.0)) ∙ g.again x.1 rest fits.1) in
      λ i. (one i, two i);
  back = λ bytes are le.
      ap (λ (l : List ℕ). l ++ v (s (drop m bytes))) (f.back bytes are (omega arith)) ∙ (ap (λ (l : List ℕ). take m bytes ++ l) (g.back (drop m bytes) (bytes-drop m bytes are) (omega (arith, length-drop m bytes))) ∙ take-add m n bytes);
  fits = λ bytes are le. (f.fits bytes are (omega arith), g.fits (drop m bytes) (bytes-drop m bytes are) (omega (arith, length-drop m bytes)));
}

-- n of a kind

module _ {A : Type 0} (m : ℕ) (w : A → List ℕ) (r : List ℕ → A) (P : A → Type 0) (f : IsFormat m w r P) where
  pub many-long : (n : ℕ) (xs : List A) → AreMany P n xs → length (flat_map w xs) ≡ n * m
  many-long zero [] fits = omega arith
  many-long zero (x ∷ xs) fits = absurd fits
  many-long (suc n) [] fits = absurd fits
  many-long (suc n) (x ∷ xs) fits = omega (arith, length-append (w x) (flat_map w xs), f.long x fits.0, many-long n xs fits.1)

  pub many-again : (n : ℕ) (xs : List A) (rest : List ℕ) → AreMany P n xs → many r m n (flat_map w xs ++ rest) ≡ xs
  many-again zero [] rest fits = refl
  many-again zero (x ∷ xs) rest fits = absurd fits
  many-again (suc n) [] rest fits = absurd fits
  many-again (suc n) (x ∷ xs) rest fits =
      let e = append_assoc (w x) (flat_map w xs) rest in
      let one : r ((w x ++ flat_map w xs) ++ rest) ≡ x = ap r e ∙ f.again x (flat_map w xs ++ rest) fits.0 in
      let two : many r m n (drop m ((w x ++ flat_map w xs) ++ rest)) ≡ xs =
      ap (λ (l : List ℕ). many r m n (drop m l)) e ∙ (ap (many r m n) (drop_at (w x) (flat_map w xs ++ rest) m (f.long x fits.0)) ∙ many-again n xs rest fits.1) in
      λ i. one i ∷ two i

  pub many-back : (n : ℕ) (bytes : List ℕ) → IsBytes bytes → n * m ≤ length bytes → flat_map w (many r m n bytes) ≡ take (n * m) bytes
  many-back zero bytes are le = let e : zero * m ≡ 0 = omega arith in ap (λ (k : ℕ). take k bytes) (sym e)
  many-back (suc n) bytes are le =
      let more : suc n * m ≡ m + n * m = omega arith in
      let rest = many-back n (drop m bytes) (bytes-drop m bytes are) (omega (arith, length-drop m bytes)) in
      ap (λ (l : List ℕ). l ++ flat_map w (many r m n (drop m bytes))) (f.back bytes are (omega arith)) ∙ (ap (λ (l : List ℕ). take m bytes ++ l) rest ∙ (take-add m (n * m) bytes ∙ ap (λ (k : ℕ). take k bytes) (sym more)))

  pub many-fits : (n : ℕ) (bytes : List ℕ) → IsBytes bytes → n * m ≤ length bytes → AreMany P n (many r m n bytes)
  many-fits zero bytes are le = tt
  many-fits (suc n) bytes are le =
      let more : suc n * m ≡ m + n * m = omega arith in
      (f.fits bytes are (omega arith), many-fits n (drop m bytes) (bytes-drop m bytes are) (omega (arith, length-drop m bytes)))

  pub is_many : (n : ℕ) → IsFormat (n * m) (flat_map w) (many r m n) (AreMany P n)
  is_many n = record { long = many-long n; again = many-again n; back = many-back n; fits = many-fits n }

-- seen as another type

pub is_seen : {A B : Type 0} (m : ℕ) (w : A → List ℕ) (r : List ℕ → A) (P : A → Type 0) (f : A → B) (g : B → A) (Q : B → Type 0)
    → IsFormat m w r P → ((y : B) → Q y → P (g y)) → ((y : B) → Q y → f (g y) ≡ y) → ((x : A) → P x → g (f x) ≡ x) → ((x : A) → P x → Q (f x))
    → IsFormat m (λ y. w (g y)) (λ bytes. f (r bytes)) Q
is_seen m w r P f g Q form to fg gf from = record {
  long = λ y fits. form.long (g y) (to y fits);
  again = λ y rest fits. ap f (form.again (g y) rest (to y fits)) ∙ fg y fits;
  back = λ bytes are le. ap w (gf (r bytes) (form.fits bytes are le)) ∙ form.back bytes are le;
  fits = λ bytes are le. from (r bytes) (form.fits bytes are le);
}

-- signed numbers

pub is_signed : IsFormat 16 signed_coded signed (SFits w128)
unfolding signed_coded signed
is_signed = record {
  long = λ z fits. (is_number 16).long (cast_unsigned w128 z) (Fits-of_z {w = w128} {z = z} fits).fits;
  again = λ z rest fits. ap (cast_signed w128) ((is_number 16).again (cast_unsigned w128 z) rest (Fits-of_z {w = w128} {z = z} fits).fits) ∙ to_z-of_z {w = w128} {z = z} fits;
  back = λ bytes are le. ap (coded 16) (of_z-to_z w128 (number 16 bytes) ((is_number 16).fits bytes are le)) ∙ (is_number 16).back bytes are le;
  fits = λ bytes are le. sfits_to_z {w = w128} {n = number 16 bytes} (record { fits = (is_number 16).fits bytes are le });
}
