-- Coordinates put one after another.
use Rattle.std.proofs.Common.{◌≡◌, ◌≤◌, ◌<◌, ◌+◌, ◌-◌, ℕ, zero, suc, List, [], ◌∷◌, ◌++◌, get_or, length, map, replicate, set, take, refl, ap, sym, ◌∙◌, arith, append_assoc}
use Rattle.std.proofs.lemmas.List.{length-map, length-take, map-append, take_all, take_more}
use Rattle.spec_points.specs.Points.{padded}

put-at : (xs zs : List ℕ) (y v n : ℕ) → length xs ≡ n → set (xs ++ y ∷ zs) n v ≡ xs ++ v ∷ zs
put-at [] zs y v zero e = refl
put-at [] zs y v (suc n) e = absurd (omega (arith, e))
put-at (x ∷ xs) zs y v zero e = absurd (omega (arith, e))
put-at (x ∷ xs) zs y v (suc n) e = ap (λ (l : List ℕ). x ∷ l) (put-at xs zs y v n (omega (arith, e)))

pub put-more : (f : ℕ → ℕ) (dims : List ℕ) (n v : ℕ) → n < length dims → length dims ≤ 8 → v ≡ f (get_or dims n 0) → set (map f (take n dims) ++ replicate (8 - n) 0) n v ≡ map f (take (n + 1) dims) ++ replicate (8 - (n + 1)) 0
put-more f dims n v lt few is =
    let front = map f (take n dims) in
    let rest = replicate {A = ℕ} (8 - (n + 1)) 0 in
    let more : 8 - n ≡ suc (8 - (n + 1)) = omega (arith, lt, few) in
    let long : length front ≡ n = omega (arith, length-map (take n dims) f, length-take n dims, lt) in
    ap (λ (k : ℕ). set (front ++ replicate k 0) n v) more
    ∙ (put-at front rest 0 v n long
    ∙ (ap (λ (x : ℕ). front ++ x ∷ rest) is
    ∙ (sym (append_assoc front (f (get_or dims n 0) ∷ []) rest)
    ∙ ap (λ (l : List ℕ). l ++ rest) (sym (map-append f (take n dims) (get_or dims n 0 ∷ [])) ∙ ap (map f) (sym (take_more dims n 0 lt))))))

pub all-put : (f : ℕ → ℕ) (dims : List ℕ) (n : ℕ) → length dims ≤ n → n ≤ length dims → map f (take n dims) ++ replicate (8 - n) 0 ≡ padded (map f dims)
all-put f dims n le few =
    let all : take n dims ≡ dims = take_all n dims le in
    let long : n ≡ length (map f dims) = omega (arith, length-map dims f, le, few) in
    (λ i. map f (all i) ++ replicate (8 - long i) 0)
