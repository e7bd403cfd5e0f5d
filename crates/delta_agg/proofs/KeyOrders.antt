-- The rows of sorted keys are in the order of the view.
use Rattle.std.proofs.Common.{◌≡◌, ℕ, ◌<◌, ◌≤◌, ◌^◌, true, List, [], map, length, get_or, reverse, Result, Ok, Err, refl, sym, ◌∙◌, ap, subst, arith}
use Rattle.std.specs.Prelude.{◌==◌, IfOk}
use Rattle.std.specs.List.{All, AllByRecursion, range_with_len}
use Rattle.std.specs.Ordering.{nat_cmp, is_lt}
use Rattle.std.proofs.lemmas.List.{get_or-map, length-map, map-id}
use Rattle.std.proofs.lemmas.List.FromFn.{length-map-range_with_len}
use Rattle.std.proofs.lemmas.List.Sorted.{IsPermutation-reverse, All-permutation}
use Rattle.std.proofs.lemmas.Nat.{mod-mul-add}
use Rattle.spec_points.proofs.Members.{every-from_All}
use Rattle.cube_point.specs.Points.{point_cmp}
use Rattle.fact_model.specs.declared.memory.Memory.{Memory}
use Rattle.delta_agg.specs.declared.digits.Digit.{Digit}
use Rattle.delta_agg.specs.declared.runs.Runs.{Runs}
use Rattle.delta_agg.specs.Batch.{HasPlace}
use Rattle.delta_agg.specs.Keys.{IsSortedOut}
use Rattle.delta_agg.specs.Rows.{HasDigit, IsOrdered, IsUnder, digit_of, digits_of, number_from, number_in, row_before, row_in, row_key, row_place, same_place}
use Rattle.delta_agg.proofs.Numbers.{Under, key-before, number-same, places-ranked}
use Rattle.delta_agg.proofs.Ordered.{rows-ordered}

module _ (view tops : List ℕ) (coded : List (List ℕ)) (declared : All (λ a. a < length tops) view) (under : All (IsUnder tops) coded) where
  -- each coordinate of a row is a digit
  has-digits : All (HasPlace view) coded → All (λ (coordinates : List ℕ). All (HasDigit coordinates) (digits_of tops view)) coded
  has-digits places k e low j d within =
      let coordinates : List ℕ = get_or coded k e in
      let back : List ℕ = reverse view in
      let IsDigit : ℕ → Type 0 = λ a. HasDigit coordinates (digit_of tops a) in
      let forward : All IsDigit view = λ i b small. (places k e low i b small, omega (arith, under k e low (get_or view i b) (declared i b small))) in
      let inside : j < length back = omega (arith, within, length-map back (digit_of tops)) in
      subst (HasDigit coordinates) (sym (get_or-map (digit_of tops) back j 0 d inside)) (All-permutation IsDigit view back (IsPermutation-reverse view) forward j 0 inside)

  pub are-digits : (digits : List Digit) → digits ≡ digits_of tops view → All (HasPlace view) coded → All (λ (coordinates : List ℕ). All (HasDigit coordinates) digits) coded
  are-digits digits of_view places = subst (λ (ds : List Digit). All (λ (coordinates : List ℕ). All (HasDigit coordinates) ds) coded) (sym of_view) (has-digits places)

  all-under : (i : ℕ) → i < length coded → AllByRecursion (Under tops (get_or coded i [])) (reverse view)
  all-under i low =
      let coordinates : List ℕ = get_or coded i [] in
      every-from_All (Under tops coordinates) (reverse view)
      (All-permutation (Under tops coordinates) view (reverse view) (IsPermutation-reverse view) (λ k d small. under i [] low (get_or view k d) (declared k d small)))

  abbrev number : ℕ → ℕ
  number i = number_from 0 (digits_of tops view) (get_or coded i [])

  module _ (rows : length coded ≤ 2 ^ 18) where
    abbrev make : ℕ → ℕ
    make = row_key (digits_of tops view) coded

    before : (i j : ℕ) → i < length coded → j < length coded → row_before view coded i j ≡ true → is_lt (nat_cmp (make i) (make j)) ≡ true
    before i j low other less =
        key-before (point_cmp (row_place view coded i) (row_place view coded j)) (number i) (number j) i j
        (places-ranked tops view (get_or coded i []) (get_or coded j []) (all-under i low) (all-under j other)) (omega (arith, low, rows)) less

    one : (i j : ℕ) → i < length coded → j < length coded → (number_in (make i) == number_in (make j)) ≡ same_place view coded i j
    one i j low other =
        number-same (point_cmp (row_place view coded i) (row_place view coded j)) (number i) (number j) i j
        (places-ranked tops view (get_or coded i []) (get_or coded j []) (all-under i low) (all-under j other)) (omega (arith, low, rows)) (omega (arith, other, rows))

    module _ (digits : List Digit) (made keys : List ℕ) (of_view : digits ≡ digits_of tops view) (are : map (λ (key : ℕ). key) made ≡ map (row_key digits coded) (range_with_len 0 (length coded)))
        (lent : keys ≡ made) where
      are-made : keys ≡ map make (range_with_len 0 (length coded))
      are-made = lent ∙ (sym (map-id made) ∙ (are ∙ ap (λ (ds : List Digit). map (row_key ds coded) (range_with_len 0 (length coded))) of_view))

      -- no more keys than rows
      pub few-keys : length keys ≤ 2 ^ 18
      few-keys = omega (arith, rows, ap length are-made, length-map-range_with_len make 0 (length coded))

      pub keys-ordered : (result : Result Runs Memory) → IfOk result (λ runs. IsSortedOut row_in (λ x y. is_lt (nat_cmp x y)) (λ x y. number_in x == number_in y) keys runs.order runs.cuts)
          → IfOk result (λ runs. IsOrdered view coded runs.order runs.cuts)
      keys-ordered (Err stop) out = tt
      keys-ordered (Ok runs) out =
          rows-ordered make row_in (length coded) keys out.sorted are-made out.moved (λ i low. mod-mul-add (number i) (2 ^ 18) i (omega (arith, low, rows))) view coded refl
          (λ x y. is_lt (nat_cmp x y)) (λ x y. number_in x == number_in y) 0 out.up before one runs.order runs.cuts out.rows (out.cut 0)
