-- Lists that stand together, of which one after another gets what belongs to a place.
use Rattle.std.proofs.Common.{◌≡◌, ℕ, ◌+◌, ◌<◌, ◌≢◌, List, map, length, get_or, set, sym, ◌∙◌, ap, arith, below_more}
use Rattle.std.proofs.lemmas.List.{get_or-set_other, get_or-set_same, get_or_default, length-map, map-set, same_lists}

module _ {X : Type 0} (ys xs : List X) (i : ℕ) (v d : X) (low : i < length ys) (is : v ≡ get_or xs i d) where
  -- those passed are there, and this one too
  pub set-there : ((j : ℕ) → j < i → get_or ys j d ≡ get_or xs j d) → (j : ℕ) → j < i + 1 → get_or (set ys i v) j d ≡ get_or xs j d
  set-there before = below_more (λ j. get_or (set ys i v) j d ≡ get_or xs j d) i
      (λ j less.
      let other : j ≢ i = omega (arith, less) in
      get_or-set_other ys i j v d other ∙ before j less)
      (get_or-set_same ys i v d low ∙ is)

-- the same of what a function takes from each list
pub put-there : {V X : Type 0} (f : V → X) (lists : List V) (xs : List X) (i : ℕ) (v : V) (d : X) → i < length lists → f v ≡ get_or xs i d
    → ((j : ℕ) → j < i → get_or (map f lists) j d ≡ get_or xs j d) → (j : ℕ) → j < i + 1 → get_or (map f (set lists i v)) j d ≡ get_or xs j d
put-there f lists xs i v d low is before = λ j less.
    ap (λ l. get_or l j d) (map-set f lists i v)
    ∙ set-there (map f lists) xs i (f v) d (omega (arith, low, length-map lists f)) is before j less

-- what is there at each index is all
pub all-there : {X : Type 0} (xs ys : List X) (n : ℕ) (d : X) → length xs ≡ n → length ys ≡ n → ((j : ℕ) → j < n → get_or xs j d ≡ get_or ys j d) → xs ≡ ys
all-there xs ys n d long as_long there = same_lists xs ys (long ∙ sym as_long)
    (λ k e low. get_or_default xs k e d low
    ∙ (there k (omega (arith, low, long)) ∙ sym (get_or_default ys k e d (omega (arith, low, long, as_long)))))
