-- A place with fewer used coordinates comes first.
use Rattle.std.proofs.Common.{◌≡◌, ℕ, zero, suc, ◌+◌, ◌-◌, ◌<◌, ◌≤◌, List, [], ◌∷◌, ◌++◌, reverse, length, replicate, refl, sym, ◌∙◌, ap, append_assoc, arith}
use Rattle.std.proofs.lemmas.List.{reverse-append, replicate-append-replicate}
use Rattle.std.specs.declared.cmp.Ordering.{Ordering}
use Rattle.std.specs.declared.cmp.Ordering.TheVariants.{Less, Equal, Greater}
use Rattle.std.specs.List.{AllByRecursion}
use Rattle.std.specs.Cmp.{ranks}
use Rattle.std.specs.Cmp.Lexicographic.{slice_cmp}
use Rattle.std.specs.Ordering.{nat_cmp, ordering_then, MatchOrdering}
use Rattle.cube_point.specs.Points.{point_cmp}
use Rattle.spec_points.specs.Points.{padded}

behind-zeros : (n : ℕ) (a b : List ℕ) → slice_cmp nat_cmp (replicate n 0 ++ a) (replicate n 0 ++ b) ≡ slice_cmp nat_cmp a b
behind-zeros zero a b = refl
behind-zeros (suc n) a b = behind-zeros n a b

reverse-more : (x : ℕ) (xs : List ℕ) → reverse (x ∷ xs) ≡ reverse xs ++ x ∷ []
reverse-more x xs = reverse-append (x ∷ []) xs

reverse-zeros : (n : ℕ) → reverse {A = ℕ} (replicate n 0) ≡ replicate n 0
reverse-zeros zero = refl
reverse-zeros (suc n) = reverse-more 0 (replicate n 0) ∙ (ap (λ r. r ++ 0 ∷ []) (reverse-zeros n) ∙ (replicate-append-replicate n 1 0 ∙ ap (λ k. replicate k 0) (one-more n)))
  where
    one-more : (n : ℕ) → n + 1 ≡ suc n
    one-more n = omega arith

reverse-padded : (cs : List ℕ) → reverse (padded cs) ≡ replicate (8 - length cs) 0 ++ reverse cs
reverse-padded cs = reverse-append cs (replicate (8 - length cs) 0) ∙ ap (λ r. r ++ reverse cs) (reverse-zeros (8 - length cs))

last-first : (b : ℕ) (bs : List ℕ) → AllByRecursion (λ c. 1 ≤ c) (b ∷ bs) → (l : ℕ) × (r : List ℕ) × (1 ≤ l) × (reverse (b ∷ bs) ≡ l ∷ r)
last-first b [] h = (b, [], h.0, refl)
last-first b (c ∷ bs) h = let i = last-first c bs h.1 in (i.0, i.1 ++ b ∷ [], i.2, reverse-more b (c ∷ bs) ∙ ap (λ r. r ++ b ∷ []) i.3)

zero-first : (l : ℕ) → 1 ≤ l → nat_cmp 0 l ≡ Less
zero-first l h = means (nat_cmp 0 l) (ranks 0 l)
  where
    means : (r : Ordering) → MatchOrdering r (0 < l) (0 ≡ l) (l < 0) → r ≡ Less
    means Less m = refl
    means Equal m = absurd (omega arith)
    means Greater m = absurd (omega arith)

pub smaller-first : (cs bs : List ℕ) → length cs < length bs → length bs ≤ 8 → AllByRecursion (λ c. 1 ≤ c) bs → point_cmp (padded cs) (padded bs) ≡ Less
smaller-first cs [] l m h = absurd (omega arith)
smaller-first cs (b ∷ bs) l m h =
    let n : ℕ = 8 - length (b ∷ bs) in
    let k : ℕ = length (b ∷ bs) - length cs - 1 in
    let last = last-first b bs h in
    let parts : replicate (8 - length cs) 0 ≡ replicate n 0 ++ replicate (suc k) 0 = ap (λ j. replicate j 0) (sizes (length cs) (length (b ∷ bs)) l m) ∙ sym (replicate-append-replicate n (suc k) 0) in
    let left : reverse (padded cs) ≡ replicate n 0 ++ (0 ∷ (replicate k 0 ++ reverse cs)) = reverse-padded cs ∙ (ap (λ z. z ++ reverse cs) parts ∙ append_assoc (replicate n 0) (replicate (suc k) 0) (reverse cs)) in
    let right : reverse (padded (b ∷ bs)) ≡ replicate n 0 ++ (last.0 ∷ last.1) = reverse-padded (b ∷ bs) ∙ ap (λ r. replicate n 0 ++ r) last.3 in
    (λ i. slice_cmp nat_cmp (left i) (right i))
    ∙ (behind-zeros n (0 ∷ (replicate k 0 ++ reverse cs)) (last.0 ∷ last.1)
    ∙ ap (λ r. ordering_then r (slice_cmp nat_cmp (replicate k 0 ++ reverse cs) last.1)) (zero-first last.0 last.2))
  where
    sizes : (a b : ℕ) → a < b → b ≤ 8 → 8 - a ≡ 8 - b + suc (b - a - 1)
    sizes a b l m = omega arith
