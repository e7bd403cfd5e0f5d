-- Steps of loops that read.
use Rattle.std.proofs.Common.{◌≡◌, ◌≤◌, ◌<◌, ◌+◌, ◌-◌, ◌*◌, ℕ, zero, suc, Bool, true, false, List, [], ◌∷◌, ◌++◌, length, take, drop, get_or, refl, sym, ap, ◌∙◌, arith, append_assoc, set}
use Rattle.std.specs.Prelude.{replicate, ◌&&◌}
use Rattle.std.specs.List.{list_all}
use Rattle.std.proofs.lemmas.List.{drop-drop, set_at, take_all}
use Rattle.std.proofs.lemmas.List.Folds.{list_all_at, list_all_more}
use Rattle.be_numbers.specs.Formats.{many}
use Rattle.page_entry.specs.Entries.{entries, entry_of, page_count, page_arity}
use Rattle.page_entry.specs.Bytes.{entry_size}
use Rattle.cube_point.specs.declared.point.Shape.{Shape}
use Rattle.cube_point.specs.declared.point.Entry.{Entry}

module _ {A : Type 0} (r : List ℕ → A) (m : ℕ) where
  pub many-more : (i : ℕ) (b : List ℕ) → many r m (i + 1) b ≡ many r m i b ++ r (drop (i * m) b) ∷ []
  many-more zero b = let e : zero * m ≡ 0 = omega arith in ap (λ (k : ℕ). r (drop k b) ∷ []) (sym e)
  many-more (suc i) b =
      let e : suc i + 1 ≡ suc (i + 1) = omega arith in
      let k : m + i * m ≡ suc i * m = omega arith in
      ap (λ n. many r m n b) e ∙ ap (λ l. r b ∷ l) (many-more i (drop m b) ∙ ap (λ (l : List ℕ). many r m i (drop m b) ++ r l ∷ []) (drop-drop (i * m) m b ∙ ap (λ (n : ℕ). drop n b) k))

  pub many-long : (n : ℕ) (b : List ℕ) → length (many r m n b) ≡ n
  many-long zero b = refl
  many-long (suc n) b = ap suc (many-long n (drop m b))

  pub many-at : (n i : ℕ) (b : List ℕ) (d : A) → i < n → get_or (many r m n b) i d ≡ r (drop (i * m) b)
  many-at zero i b d lt = absurd (omega arith)
  many-at (suc n) zero b d lt = let e : zero * m ≡ 0 = omega arith in ap (λ (k : ℕ). r (drop k b)) (sym e)
  many-at (suc n) (suc i) b d lt =
      let k : m + i * m ≡ suc i * m = omega arith in
      many-at n i (drop m b) d (omega arith) ∙ ap r (drop-drop (i * m) m b ∙ ap (λ (n : ℕ). drop n b) k)

  -- a loop over all values, the first of them at place f of the page
  pub all-more : (p : A → Bool) (n i f : ℕ) (b : List ℕ) → i < n → list_all p (take i (many r m n (drop f b))) ≡ true → p (r (drop (f + i * m) b)) ≡ true → list_all p (take (i + 1) (many r m n (drop f b))) ≡ true
  all-more p n i f b lt so_far this =
      let d = r [] in
      let long = many-long n (drop f b) in
      let value = many-at n i (drop f b) d lt ∙ ap r (drop-drop (i * m) f b) in
      list_all_more p (many r m n (drop f b)) i d (omega arith) ∙ (λ j. so_far j && (ap p value ∙ this) j)

  pub all-fails : (p : A → Bool) (n i f : ℕ) (b : List ℕ) → i < n → p (r (drop (f + i * m) b)) ≡ false → list_all p (many r m n (drop f b)) ≡ false
  all-fails p n i f b lt this =
      let d = r [] in
      let long = many-long n (drop f b) in
      let value = many-at n i (drop f b) d lt ∙ ap r (drop-drop (i * m) f b) in
      list_all_at p (many r m n (drop f b)) i d (omega arith) (ap p value ∙ this)

  pub all-done : (p : A → Bool) (n i f : ℕ) (b : List ℕ) → n ≤ i → list_all p (take i (many r m n (drop f b))) ≡ true → list_all p (many r m n (drop f b)) ≡ true
  all-done p n i f b le so_far =
      let long = many-long n (drop f b) in
      ap (list_all p) (sym (take_all i (many r m n (drop f b)) (omega arith))) ∙ so_far

-- the next of n places is written
pub set-next : {A : Type 0} (xs : List A) (z x : A) (i n : ℕ) → length xs ≡ i → i < n → set (xs ++ replicate (n - i) z) i x ≡ (xs ++ x ∷ []) ++ replicate (n - (i + 1)) z
set-next xs z x i n long lt =
    let e : n - i ≡ suc (n - (i + 1)) = omega arith in
    ap (λ (k : ℕ). set (xs ++ replicate k z) i x) e ∙ (set_at xs z (replicate (n - (i + 1)) z) x i long ∙ sym (append_assoc xs (x ∷ []) (replicate (n - (i + 1)) z)))

-- the next value is read into its place
pub read-next : {A : Type 0} (r : List ℕ → A) (m : ℕ) (z x : A) (i n f : ℕ) (b : List ℕ) (all : List A) → i < n → all ≡ many r m i (drop f b) ++ replicate (n - i) z → x ≡ r (drop (f + i * m) b)
    → set all i x ≡ many r m (i + 1) (drop f b) ++ replicate (n - (i + 1)) z
read-next r m z x i n f b all lt so_far this =
    ap (λ (l : List _). set l i x) so_far ∙ (set-next (many r m i (drop f b)) z x i n (many-long r m i (drop f b)) lt
    ∙ ap (λ (l : List _). l ++ replicate (n - (i + 1)) z) (ap (λ (y : _). many r m i (drop f b) ++ y ∷ []) (this ∙ ap r (sym (drop-drop (i * m) f b))) ∙ sym (many-more r m i (drop f b))))

-- what is read of a leaf

pub entries-are : (shape : Shape) (b : List ℕ) (n : ℕ) → n ≡ page_count b → entries shape b ≡ many (entry_of (page_arity b) shape) (entry_size (page_arity b) shape) n (drop 8 b)
unfolding entries
entries-are shape b n e = ap (λ (k : ℕ). many (entry_of (page_arity b) shape) (entry_size (page_arity b) shape) k (drop 8 b)) (sym e)

pub entry-read : (shape : Shape) (b : List ℕ) (i : ℕ) (d : Entry) → i < page_count b → get_or (entries shape b) i d ≡ entry_of (page_arity b) shape (drop (8 + i * entry_size (page_arity b) shape) b)
unfolding entries
entry-read shape b i d lt = many-at (entry_of (page_arity b) shape) (entry_size (page_arity b) shape) (page_count b) i (drop 8 b) d lt
    ∙ ap (entry_of (page_arity b) shape) (drop-drop (i * entry_size (page_arity b) shape) 8 b)

-- the place behind the one before
pub next-place : (i size : ℕ) → 0 < i → (i - 1) * size + size ≡ i * size
next-place i size some =
    let j = i - 1 in
    let next : suc j ≡ i = omega (arith, some) in
    let times : j * size + size ≡ suc j * size = omega arith in
    times ∙ ap (λ (k : ℕ). k * size) next
