-- Rows that are told by what is sorted: they are all rows, in the order that is sorted by, and places begin where it tells.
use Rattle.std.proofs.Common.{◌≡◌, ℕ, zero, suc, ◌+◌, ◌-◌, ◌<◌, ◌≤◌, Bool, true, false, not, ◌||◌, List, [], ◌∷◌, ◌++◌, map, length, get_or, IsPermutation, refl, sym, ◌∙◌, ap, subst, inl, inr, arith}
use Rattle.std.specs.Prelude.{◌==◌, slice_index}
use Rattle.std.specs.List.{All, range_with_len}
use Rattle.std.specs.List.Sorted.{IsSortedBy}
use Rattle.std.proofs.lemmas.Bool.{cases_Bool}
use Rattle.std.proofs.lemmas.List.{length-map, get_or-map}
use Rattle.std.proofs.lemmas.List.FromFn.{get_or-map-range_with_len, length-map-range_with_len}
use Rattle.std.proofs.lemmas.List.Sorted.{IsPermutation-map, All-permutation}
use Rattle.spec_points.specs.Points.{View}
use Rattle.delta_agg.specs.Rows.{IsOrdered, begins, cuts_by, row_before, same_place}
use Rattle.delta_agg.proofs.Cuts.{filter-alike}

never : (b : Bool) → (b ≡ true → ⊥) → b ≡ false
never b not = elim (cases_Bool b) [ inl t ↦ absurd (not t) | inr f ↦ f ]

-- a sorted list, seen by what its items stand for
pub sorted-seen : {X Y : Type 0} (lt : Y → Y → Bool) (f : X → Y) (x : X) (xs : List X) → IsSortedBy (λ a b. lt (f a) (f b)) xs → IsSortedBy lt (map f xs)
sorted-seen lt f x xs up k d low high =
    let below : k + 1 < length xs = omega (arith, high, length-map xs f) in
    (λ i. lt (get_or-map f xs (k + 1) x d below i) (get_or-map f xs k x d (omega arith) i)) ∙ up k x low below

module _ {K : Type 0} (make : ℕ → K) (row : K → ℕ) (n : ℕ) (keys sorted : List K)
    (are : keys ≡ map make (range_with_len 0 n)) (moved : IsPermutation keys sorted) (back : (i : ℕ) → i < n → row (make i) ≡ i) where
  map-back : (a m : ℕ) → a + m ≤ n → map row (map make (range_with_len a m)) ≡ range_with_len a m
  map-back a zero low = refl
  map-back a (suc m) low = λ i. back a (omega arith) i ∷ map-back (a + 1) m (omega arith) i

  rows-moved : IsPermutation (range_with_len 0 n) (map row sorted)
  rows-moved = subst (λ rows. IsPermutation rows (map row sorted)) (ap (map row) are ∙ map-back 0 n (omega arith)) (IsPermutation-map row keys sorted moved)

  -- it is what its row makes
  abbrev Made : K → Type 0
  Made k = (row k < n) × (make (row k) ≡ k)

  made : All Made (map make (range_with_len 0 n))
  made k d low =
      let below : k < n = omega (arith, low, length-map-range_with_len make 0 n) in
      subst Made (sym (get_or-map-range_with_len make 0 n k k d below (omega arith))) (subst (λ i. i < n) (sym (back k below)) below, ap make (back k below))

  sorted-made : All Made sorted
  sorted-made = All-permutation Made keys sorted moved (subst (All Made) (sym are) made)

  module _ (lt : K → K → Bool) (before : ℕ → ℕ → Bool) (up : IsSortedBy lt sorted) (tells : (i j : ℕ) → i < n → j < n → before i j ≡ true → lt (make i) (make j) ≡ true) where
    by-rows : IsSortedBy (λ a b. before (row a) (row b)) sorted
    by-rows k d low high =
        let s = sorted-made (k + 1) d high in
        let t = sorted-made k d (omega arith) in
        never (before (row (get_or sorted (k + 1) d)) (row (get_or sorted k d))) (λ yes.
        let less : lt (get_or sorted (k + 1) d) (get_or sorted k d) ≡ true
        = (λ i. lt (sym s.1 i) (sym t.1 i)) ∙ tells (row (get_or sorted (k + 1) d)) (row (get_or sorted k d)) s.0 t.0 yes in
        cc (less, up k d low high))

    rows-sorted : IsSortedBy before (map row sorted)
    rows-sorted = sorted-seen before row (make 0) sorted by-rows

  module _ (same : K → K → Bool) (alike : ℕ → ℕ → Bool) (tells : (i j : ℕ) → i < n → j < n → same (make i) (make j) ≡ alike i j) (d : K) where
    -- neighbours are as their rows
    same-rows : (at : ℕ) → at < length sorted
        → ((at == 0) || not (same (get_or sorted (at - 1) d) (get_or sorted at d))) ≡ ((at == 0) || not (alike (slice_index (map row sorted) (at - 1)) (slice_index (map row sorted) at)))
    same-rows at low =
        let s = sorted-made (at - 1) d (omega arith) in
        let t = sorted-made at d low in
        ap (λ b. (at == 0) || not b) ((λ i. same (sym s.1 i) (sym t.1 i))
        ∙ (tells (row (get_or sorted (at - 1) d)) (row (get_or sorted at d)) s.0 t.0
        ∙ (λ i. alike (sym (get_or-map row sorted (at - 1) d 0 (omega arith)) i) (sym (get_or-map row sorted at d 0 low) i))))

    rows-cut : cuts_by (λ at. (at == 0) || not (same (get_or sorted (at - 1) d) (get_or sorted at d))) (length sorted)
        ≡ cuts_by (λ at. (at == 0) || not (alike (slice_index (map row sorted) (at - 1)) (slice_index (map row sorted) at))) (length (map row sorted))
    rows-cut =
        (λ i. filter-alike (λ at. (at == 0) || not (same (get_or sorted (at - 1) d) (get_or sorted at d))) (λ at. (at == 0) || not (alike (slice_index (map row sorted) (at - 1)) (slice_index (map row sorted) at))) (length sorted) same-rows i ++ length sorted ∷ [])
        ∙ ap (cuts_by (λ at. (at == 0) || not (alike (slice_index (map row sorted) (at - 1)) (slice_index (map row sorted) at)))) (sym (length-map sorted row))

  -- so the rows are in the order of a view, and cut
  module _ (view : View) (coded : List (List ℕ)) (all : length coded ≡ n) (lt same : K → K → Bool) (d : K) (up : IsSortedBy lt sorted)
      (before : (i j : ℕ) → i < n → j < n → row_before view coded i j ≡ true → lt (make i) (make j) ≡ true)
      (one : (i j : ℕ) → i < n → j < n → same (make i) (make j) ≡ same_place view coded i j) where
    pub rows-ordered : (order cuts : List ℕ) → order ≡ map row sorted → cuts ≡ cuts_by (λ at. (at == 0) || not (same (get_or sorted (at - 1) d) (get_or sorted at d))) (length sorted) → IsOrdered view coded order cuts
    rows-ordered order cuts is cut = record {
      moved = subst (λ rows. IsPermutation (range_with_len 0 (length coded)) rows) (sym is) (subst (λ m. IsPermutation (range_with_len 0 m) (map row sorted)) (sym all) rows-moved);
      sorted = subst (IsSortedBy (row_before view coded)) (sym is) (rows-sorted lt (row_before view coded) up before);
      cut = cut ∙ (rows-cut same (same_place view coded) one d ∙ ap (λ rows. cuts_by (begins view coded rows) (length rows)) (sym is));
    }
