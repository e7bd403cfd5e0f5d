-- Values put one after another.
use Rattle.std.proofs.Common.{◌≡◌, ◌≤◌, ◌<◌, ◌+◌, ◌-◌, ℕ, zero, suc, List, [], ◌∷◌, ◌++◌, get_or, length, map, replicate, set, take, refl, ap, sym, ◌∙◌, arith, append_assoc, append-nil}
use Rattle.std.proofs.lemmas.List.{length-map, length-take, map-append, take_all, take_more}

module _ {A B : Type 0} (f : A → B) (zero_value : B) where
  put-at : (xs zs : List B) (y v : B) (n : ℕ) → length xs ≡ n → set (xs ++ y ∷ zs) n v ≡ xs ++ v ∷ zs
  put-at [] zs y v zero e = refl
  put-at [] zs y v (suc n) e = absurd (omega (arith, e))
  put-at (x ∷ xs) zs y v zero e = absurd (omega (arith, e))
  put-at (x ∷ xs) zs y v (suc n) e = ap (λ (l : List B). x ∷ l) (put-at xs zs y v n (omega (arith, e)))

  pub put-more : (all : ℕ) (xs : List A) (n : ℕ) (d : A) (v : B) → n < length xs → length xs ≤ all → v ≡ f (get_or xs n d)
      → set (map f (take n xs) ++ replicate (all - n) zero_value) n v ≡ map f (take (n + 1) xs) ++ replicate (all - (n + 1)) zero_value
  put-more all xs n d v lt few is =
      let front = map f (take n xs) in
      let rest = replicate (all - (n + 1)) zero_value in
      let more : all - n ≡ suc (all - (n + 1)) = omega (arith, lt, few) in
      let long : length front ≡ n = omega (arith, length-map (take n xs) f, length-take n xs, lt) in
      ap (λ (k : ℕ). set (front ++ replicate k zero_value) n v) more
      ∙ (put-at front rest zero_value v n long
      ∙ (ap (λ (x : B). front ++ x ∷ rest) is
      ∙ (sym (append_assoc front (f (get_or xs n d) ∷ []) rest)
      ∙ ap (λ (l : List B). l ++ rest) (sym (map-append f (take n xs) (get_or xs n d ∷ [])) ∙ ap (map f) (sym (take_more xs n d lt))))))

  pub all-put : (all : ℕ) (xs : List A) (n : ℕ) → length xs ≤ n → n ≤ length xs → map f (take n xs) ++ replicate (all - n) zero_value ≡ map f xs ++ replicate (all - length (map f xs)) zero_value
  all-put all xs n le few =
      let whole : take n xs ≡ xs = take_all n xs le in
      let long : n ≡ length (map f xs) = omega (arith, length-map xs f, le, few) in
      (λ i. map f (whole i) ++ replicate (all - long i) zero_value)

  pub full-put : (all : ℕ) (xs : List A) → length xs ≡ all → map f (take all xs) ++ replicate (all - all) zero_value ≡ map f xs
  full-put all xs long =
      let whole : take all xs ≡ xs = take_all all xs (omega (arith, long)) in
      let none : all - all ≡ 0 = omega arith in
      (λ i. map f (whole i) ++ replicate (none i) zero_value) ∙ append-nil (map f xs)
