-- Where a test says that something begins, one place more.
use Rattle.std.proofs.Common.{◌≡◌, ◌<◌, ◌+◌, ℕ, zero, suc, Bool, true, false, cond, [], ◌∷◌, ◌++◌, map, refl, sym, ◌∙◌, ap, arith}
use Rattle.std.specs.Prelude.{filter}
use Rattle.std.specs.List.{range_with_len}
use Rattle.std.proofs.lemmas.List.{append-nil, map-id}
use Rattle.std.proofs.lemmas.List.FromFn.{filter_of_map_range_with_len_more}

pub filter-more : (p : ℕ → Bool) (n : ℕ) → filter p (range_with_len 0 (n + 1)) ≡ filter p (range_with_len 0 n) ++ cond (p n) (n ∷ []) []
filter-more p n =
    let plain : (m : ℕ) → filter p (map (λ (x : ℕ). x) (range_with_len 0 m)) ≡ filter p (range_with_len 0 m) = λ m. ap (filter p) (map-id (range_with_len 0 m)) in
    sym (plain (n + 1)) ∙ (filter_of_map_range_with_len_more p (λ x. x) 0 n n (omega arith) ∙ ap (λ front. front ++ cond (p n) (n ∷ []) []) (plain n))

pub filter-yes : (p : ℕ → Bool) (n : ℕ) → p n ≡ true → filter p (range_with_len 0 (n + 1)) ≡ filter p (range_with_len 0 n) ++ n ∷ []
filter-yes p n is = filter-more p n ∙ ap (λ b. filter p (range_with_len 0 n) ++ cond b (n ∷ []) []) is

pub filter-no : (p : ℕ → Bool) (n : ℕ) → p n ≡ false → filter p (range_with_len 0 (n + 1)) ≡ filter p (range_with_len 0 n)
filter-no p n is = filter-more p n ∙ (ap (λ b. filter p (range_with_len 0 n) ++ cond b (n ∷ []) []) is ∙ append-nil (filter p (range_with_len 0 n)))

-- two tests that agree on all places
pub filter-alike : (p q : ℕ → Bool) (n : ℕ) → ((k : ℕ) → k < n → p k ≡ q k) → filter p (range_with_len 0 n) ≡ filter q (range_with_len 0 n)
filter-alike p q zero alike = refl
filter-alike p q (suc n) alike =
    let next : suc n ≡ n + 1 = omega arith in
    ap (λ m. filter p (range_with_len 0 m)) next
    ∙ (filter-more p n
    ∙ ((λ i. filter-alike p q n (λ k low. alike k (omega (arith, low))) i ++ cond (alike n (omega arith) i) (n ∷ []) [])
    ∙ (sym (filter-more q n) ∙ ap (λ m. filter q (range_with_len 0 m)) (sym next))))
