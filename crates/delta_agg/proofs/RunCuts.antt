-- What lies between cuts: rows of the batch, one at least, whose masses are within those of all.
use Rattle.std.proofs.Common.{◌≡◌, ℕ, zero, suc, ◌+◌, ◌-◌, ◌<◌, ◌≤◌, Bool, ℤ, List, [], ◌∷◌, ◌++◌, length, map, get_or, take, drop, IsPermutation, refl, sym, ◌∙◌, ap, subst, inl, inr, arith}
use Rattle.std.specs.Prelude.{filter, nat_abs, not, slice_index}
use Rattle.std.specs.List.{All, range_with_len}
use Rattle.std.proofs.lemmas.Bool.{cases_Bool, cases_lt}
use Rattle.std.proofs.lemmas.List.{get_or-drop, get_or-map, get_or-take, get_or_append_left, get_or_push, length-drop, length-map, length-take, length_push, map-append, take-append-drop}
use Rattle.std.proofs.lemmas.List.Filters.{length-filter_both}
use Rattle.std.proofs.lemmas.List.FromFn.{fill_by_all, get_or-range_with_len, length-range_with_len}
use Rattle.std.proofs.lemmas.List.Sorted.{All-permutation, IsPermutation-map, length_permutation, sum_by-IsPermutation}
use Rattle.fact_model.specs.declared.fact.Fact.{Fact}
use Rattle.fact_model.specs.Fact.{mass, measure_at}
use Rattle.spec_points.specs.Points.{View}
use Rattle.spec_points.proofs.Sums.{mass-append}
use Rattle.delta_agg.specs.Orders.{bare, facts_at, run_at}
use Rattle.delta_agg.specs.Rows.{IsOrdered, begins, cuts_by}
use Rattle.delta_agg.proofs.Cuts.{filter-no, filter-yes}

-- ---- cuts rise

-- each is below the next, and all below the end
record Rises (xs : List ℕ) (end : ℕ) : Type 0 where
  next : (i : ℕ) → i + 1 < length xs → get_or xs i 0 < get_or xs (i + 1) 0
  below : (i : ℕ) → i < length xs → get_or xs i 0 < end

rises-on : (xs : List ℕ) (n : ℕ) → Rises xs n → Rises xs (n + 1)
rises-on xs n up = record { next = up.next; below = λ i low. omega (arith, up.below i low) }

rises-push : (xs : List ℕ) (n : ℕ) → Rises xs n → Rises (xs ++ n ∷ []) (n + 1)
rises-push xs n up = record { next = next; below = below }
  where
    old : (i : ℕ) → i < length xs → get_or (xs ++ n ∷ []) i 0 ≡ get_or xs i 0
    old i low = get_or_append_left xs (n ∷ []) 0 i low

    below : (i : ℕ) → i < length (xs ++ n ∷ []) → get_or (xs ++ n ∷ []) i 0 < n + 1
    below i low = elim (cases_lt i (length xs)) [
      | inl inside ↦ omega (arith, old i inside, up.below i inside)
      | inr past ↦ (let at : length xs ≡ i = omega (arith, past, low, length_push xs n) in omega (arith, get_or_push xs n 0 i at))
    ]

    next : (i : ℕ) → i + 1 < length (xs ++ n ∷ []) → get_or (xs ++ n ∷ []) i 0 < get_or (xs ++ n ∷ []) (i + 1) 0
    next i low = elim (cases_lt (i + 1) (length xs)) [
      | inl inside ↦ omega (arith, old i (omega (arith, inside)), old (i + 1) inside, up.next i inside)
      | inr past ↦ (let at : length xs ≡ i + 1 = omega (arith, past, low, length_push xs n) in
          omega (arith, get_or_push xs n 0 (i + 1) at, old i (omega (arith, at)), up.below i (omega (arith, at))))
    ]

rises-more : (starts : ℕ → Bool) (n : ℕ) → Rises (filter starts (range_with_len 0 n)) n → Rises (filter starts (range_with_len 0 (n + 1))) (n + 1)
rises-more starts n up = elim (cases_Bool (starts n)) [
  | inl t ↦ subst (λ xs. Rises xs (n + 1)) (sym (filter-yes starts n t)) (rises-push (filter starts (range_with_len 0 n)) n up)
  | inr f ↦ subst (λ xs. Rises xs (n + 1)) (sym (filter-no starts n f)) (rises-on (filter starts (range_with_len 0 n)) n up)
]

filter-rises : (starts : ℕ → Bool) (n : ℕ) → Rises (filter starts (range_with_len 0 n)) n
filter-rises starts zero = record { next = λ i low. absurd (omega (arith, low)); below = λ i low. absurd (omega (arith, low)) }
filter-rises starts (suc n) =
    let up : n + 1 ≡ suc n = omega arith in
    subst (λ m. Rises (filter starts (range_with_len 0 m)) m) up (rises-more starts n (filter-rises starts n))

module _ (starts : ℕ → Bool) (n : ℕ) where
  cuts-rise : Rises (cuts_by starts n) (n + 1)
  cuts-rise = rises-push (filter starts (range_with_len 0 n)) n (filter-rises starts n)

  cuts-some : 1 ≤ length (cuts_by starts n)
  cuts-some = omega (arith, length_push (filter starts (range_with_len 0 n)) n)

-- ---- the masses of some rows

mass-moved : (m : ℕ) (xs ys : List Fact) → IsPermutation xs ys → mass m ys ≡ mass m xs
mass-moved m xs ys moved = sum_by-IsPermutation nat_abs (map (measure_at m) xs) (map (measure_at m) ys) (IsPermutation-map (measure_at m) xs ys moved)

module _ (numbers : List (List ℤ)) where
  abbrev of : ℕ → Fact
  of row = bare (get_or numbers row [])

  split : (m i : ℕ) (rows : List ℕ) → mass m (facts_at numbers rows) ≡ mass m (facts_at numbers (take i rows)) + mass m (facts_at numbers (drop i rows))
  split m i rows =
      ap (λ rows. mass m (map of rows)) (sym (take-append-drop i rows))
      ∙ (ap (mass m) (map-append of (take i rows) (drop i rows)) ∙ mass-append m (map of (take i rows)) (map of (drop i rows)))

  part-mass : (m i k : ℕ) (rows : List ℕ) → mass m (facts_at numbers (take k (drop i rows))) ≤ mass m (facts_at numbers rows)
  part-mass m i k rows = omega (arith, split m i rows, split m k (drop i rows))

  all-rows : facts_at numbers (range_with_len 0 (length numbers)) ≡ map bare numbers
  all-rows = sym (fill_by_all of (map bare numbers) (length numbers) (bare []) (length-map numbers bare) (λ k low. get_or-map bare numbers k [] (bare []) low))

-- ---- runs

module _ (view : View) (coded : List (List ℕ)) (order cuts : List ℕ) (o : IsOrdered view coded order cuts) where
  pub order-long : length order ≡ length coded
  order-long = length_permutation (range_with_len 0 (length coded)) order o.moved ∙ length-range_with_len 0 (length coded)

  pub some-cuts : 1 ≤ length cuts
  some-cuts = subst (λ xs. 1 ≤ length xs) (sym o.cut) (cuts-some (begins view coded order) (length order))

  pub few-cuts : length cuts - 1 ≤ length coded
  few-cuts =
      let starts : ℕ → Bool = begins view coded order in
      let places : List ℕ = range_with_len 0 (length order) in
      omega (arith, order-long, ap (λ (xs : List ℕ). length xs) o.cut, length_push (filter starts places) (length order), length-filter_both starts (λ k. not (starts k)) (λ k. refl) places, length-range_with_len 0 (length order))

  rising : Rises cuts (length order + 1)
  rising = subst (λ xs. Rises xs (length order + 1)) (sym o.cut) (cuts-rise (begins view coded order) (length order))

  pub order-rows : All (λ row. row < length coded) order
  order-rows = All-permutation (λ row. row < length coded) (range_with_len 0 (length coded)) order o.moved (λ k d low.
      omega (arith, low, length-range_with_len 0 (length coded), get_or-range_with_len 0 (length coded) k d (omega (arith, low, length-range_with_len 0 (length coded)))))

  module _ (at : ℕ) (inside : at < length cuts - 1) where
    pub run-rises : slice_index cuts at < slice_index cuts (at + 1)
    run-rises = rising.next at (omega (arith, inside))

    pub run-within : slice_index cuts (at + 1) ≤ length order
    run-within = omega (arith, rising.below (at + 1) (omega (arith, inside)))

    pub first-within : slice_index cuts at < length order
    first-within = omega (arith, run-rises, run-within)

    pub first-row : slice_index order (slice_index cuts at) < length coded
    first-row = order-rows (slice_index cuts at) 0 first-within

    abbrev run : List ℕ
    run = run_at order cuts at

    run-long : length run ≡ slice_index cuts (at + 1) - slice_index cuts at
    run-long =
        omega (arith, run-within, run-rises, length-take (slice_index cuts (at + 1) - slice_index cuts at) (drop (slice_index cuts at) order), length-drop (slice_index cuts at) order)

    pub run-some : 1 ≤ length run
    run-some = omega (arith, run-long, run-rises)

    pub run-few : length run ≤ length coded
    run-few = omega (arith, run-long, run-within, order-long)

    at-run : (k d : ℕ) → k < length run → get_or run k d ≡ get_or order (slice_index cuts at + k) d
    at-run k d low =
        get_or-take (slice_index cuts (at + 1) - slice_index cuts at) (drop (slice_index cuts at) order) k d (omega (arith, low, run-long))
        ∙ get_or-drop (slice_index cuts at) order k d

    pub run-rows : All (λ row. row < length coded) run
    run-rows k d low = subst (λ row. row < length coded) (sym (at-run k d low)) (order-rows (slice_index cuts at + k) d (omega (arith, low, run-long, run-rises, run-within)))

    pub run-first : slice_index run 0 ≡ slice_index order (slice_index cuts at)
    run-first =
        let none : slice_index cuts at + 0 ≡ slice_index cuts at = omega arith in
        at-run 0 0 (omega (arith, run-some)) ∙ ap (slice_index order) none

    pub run-mass : (numbers : List (List ℤ)) → length coded ≡ length numbers → (m : ℕ) → mass m (facts_at numbers run) ≤ mass m (map bare numbers)
    run-mass numbers lists m =
        let f : ℕ → Fact = λ row. bare (get_or numbers row []) in
        let whole : mass m (facts_at numbers order) ≡ mass m (map bare numbers)
        = mass-moved m (map f (range_with_len 0 (length coded))) (map f order) (IsPermutation-map f (range_with_len 0 (length coded)) order o.moved)
        ∙ ap (mass m) (ap (λ n. map f (range_with_len 0 n)) lists ∙ all-rows numbers) in
        omega (arith, whole, part-mass numbers m (slice_index cuts at) (slice_index cuts (at + 1) - slice_index cuts at) order)
