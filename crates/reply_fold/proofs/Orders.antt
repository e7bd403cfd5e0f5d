-- Rows in the order of their keys, joined where neighbours have one key, are the rows joined by their keys.
use Rattle.std.proofs.Common.{◌≡◌, ℕ, zero, suc, ◌+◌, ◌<◌, ◌≤◌, true, false, List, [], ◌∷◌, ◌++◌, map, filter, length, drop, get_or, ℤ, nat_abs, sum_by, refl, sym, ◌∙◌, ap, subst, arith, IsPermutation}
use Rattle.std.specs.Prelude.{IfOk, Result, Ok, Err}
use Rattle.std.specs.Cmp.{IsStrictWeakOrder}
use Rattle.std.specs.List.{All, range_with_len}
use Rattle.std.specs.List.Sorted.{IsSortedBy}
use Rattle.std.specs.Ordering.{is_gt, is_lt, ordering_reverse}
use Rattle.std.specs.declared.cmp.Ordering.{Ordering}
use Rattle.std.specs.declared.cmp.Ordering.TheVariants.{Less, Equal, Greater}
use Rattle.std.proofs.lemmas.List.{drop_more, get_or-map, length-map}
use Rattle.std.proofs.lemmas.List.Elements.{All-tail}
use Rattle.std.proofs.lemmas.List.FromFn.{fill_by_all}
use Rattle.std.proofs.lemmas.List.Sorted.{All-permutation, IsPermutation-map, ranks_by, sum_by-IsPermutation}
use Rattle.fact_model.specs.declared.slice.Column.{Column}
use Rattle.fact_model.specs.declared.slice.Row.{Row}
use Rattle.fact_model.specs.Adds.{AddUp, number_in, numbers_in}
use Rattle.fact_model.specs.Fact.{mass_limit}
use Rattle.fact_model.specs.Groups.{groups}
use Rattle.fact_model.specs.Value.{Key, key_cmp}
use Rattle.fact_model.proofs.Sums.{column-cons}
use Rattle.fact_model.proofs.ValueOrder.{key_cmp-IsAntisymmetric, key-total}
use Rattle.row_fold.specs.Folds.{all_joined}
use Rattle.row_fold.specs.Joins.{CanJoin, join_numbers, size_at}
use Rattle.row_fold.proofs.FoldLaws.{rows-grouped}
use Rattle.row_fold.proofs.NumberJoins.{numbers-assoc, numbers-comm}
use Rattle.row_fold.proofs.Sorts.{InOrder, sorted-grouped}
use Rattle.reply_fold.specs.Folding.{Makes, entry_at, neighbours}
use Rattle.reply_fold.specs.Order.{IsOrderOf, comes_before, picked, row_at}
use Rattle.reply_fold.specs.Whole.{IsWide, joined}
use Rattle.reply_fold.specs.declared.folding.Folding.{Folding}

-- ---- places in turn

one-more : (a n : ℕ) → range_with_len a (suc n) ≡ range_with_len a n ++ (a + n) ∷ []
one-more a zero = λ i. behind a i ∷ []
  where
    behind : (a : ℕ) → a ≡ a + zero
    behind a = omega arith
one-more a (suc n) = ap (λ ns. a ∷ ns) (one-more (a + 1) n ∙ ap (λ k. range_with_len (a + 1) n ++ k ∷ []) (on a n))
  where
    on : (a n : ℕ) → a + 1 + n ≡ a + suc n
    on a n = omega arith

pub range-more : (n : ℕ) → range_with_len 0 (n + 1) ≡ range_with_len 0 n ++ n ∷ []
range-more n = ap (range_with_len 0) next ∙ (one-more 0 n ∙ ap (λ k. range_with_len 0 n ++ k ∷ []) same)
  where
    next : n + 1 ≡ suc n
    next = omega arith

    same : 0 + n ≡ n
    same = omega arith

-- ---- places in the order of the keys

module _ (rows : List Row) where
  pub comes_before-order : IsStrictWeakOrder (comes_before rows)
  comes_before-order = ranks_by key-total (λ (i : ℕ). (row_at rows i).key)

  -- places that were all in turn, and then sorted
  pub places-order : (n : ℕ) (start order : List ℕ) → n ≡ length rows → start ≡ range_with_len 0 n → IsPermutation start order → IsSortedBy (comes_before rows) order → IsOrderOf rows order
  places-order n start order long is moved up =
      let all : rows ≡ picked rows (range_with_len 0 (length rows)) = fill_by_all (row_at rows) rows (length rows) (record { key = []; numbers = [] }) refl (λ k lt. refl) in
      let first : picked rows start ≡ rows = ap (picked rows) is ∙ (ap (λ k. picked rows (range_with_len 0 k)) long ∙ sym all) in
      record { moved = subst (λ (l : List Row). IsPermutation l (picked rows order)) first (IsPermutation-map (row_at rows) start order moved); sorted = up }

  -- entries at places
  abbrev pub entries : List ℕ → List (Key × List ℤ)
  entries places = map (entry_at rows) places

  entries-picked : (places : List ℕ) → map (λ (r : Row). (r.key, r.numbers)) (picked rows places) ≡ entries places
  entries-picked [] = refl
  entries-picked (i ∷ places) = ap (λ es. entry_at rows i ∷ es) (entries-picked places)

  turned : (r : Ordering) → is_gt (ordering_reverse r) ≡ is_lt r
  turned Less = refl
  turned Equal = refl
  turned Greater = refl

  no-later : (j k : Key) → is_lt (key_cmp k j) ≡ false → is_gt (key_cmp j k) ≡ false
  no-later j k h = ap is_gt (key-total.antisymm j k) ∙ (turned (key_cmp k j) ∙ h)

  in-order : (order : List ℕ) → IsSortedBy (comes_before rows) order → InOrder key_cmp (entries order)
  in-order [] up = tt
  in-order (i ∷ []) up = tt
  in-order (i ∷ j ∷ order) up = (no-later (row_at rows i).key (row_at rows j).key (up 0 i (omega arith) (omega arith)), in-order (j ∷ order) rest)
    where
      next : (k : ℕ) → suc k + 1 ≡ suc (k + 1)
      next k = omega arith

      rest : IsSortedBy (comes_before rows) (j ∷ order)
      rest k x low within =
          subst (λ n. comes_before rows (get_or (i ∷ j ∷ order) n x) (get_or (j ∷ order) k x) ≡ false) (next k) (up (suc k) x (omega arith) (omega arith))

all-kept : (rows : List Row) → filter (λ (r : Row). true) rows ≡ rows
all-kept [] = refl
all-kept (r ∷ rows) = ap (λ rs. r ∷ rs) (all-kept rows)

-- neighbours in the order of the keys, joined, are the rows joined by their keys
pub order-joined : (cs : List Column) (rows : List Row) (order : List ℕ) → IsOrderOf rows order → neighbours cs (entries rows order) ≡ joined cs rows
order-joined cs rows order is =
    sorted-grouped key_cmp key-total key_cmp-IsAntisymmetric (join_numbers cs) (numbers-comm cs) (numbers-assoc cs) (λ (r : Row). r.key) (λ (r : Row). r.numbers) rows (entries rows order)
    (subst (IsPermutation (map (λ (r : Row). (r.key, r.numbers)) rows)) (entries-picked rows order) (IsPermutation-map (λ (r : Row). (r.key, r.numbers)) rows (picked rows order) is.moved))
    (in-order rows order is.sorted)
    ∙ (sym (rows-grouped cs (λ (r : Row). r.key) rows) ∙ ap (λ rs. groups key_cmp (λ (r : Row). r.key) (all_joined cs) rs) (sym (all-kept rows)))

-- ---- the loop over the places

-- the magnitudes of a column, added up
abbrev pub weight_at : ℕ → List Row → ℕ
weight_at j rows = sum_by nat_abs (numbers_in j rows)

module _ (cs : List Column) (rows : List Row) (order : List ℕ) (is : IsOrderOf rows order) where
  pub picked-wide : All (IsWide cs) rows → All (IsWide cs) (picked rows order)
  picked-wide wide = All-permutation (IsWide cs) rows (picked rows order) is.moved wide

  pub picked-weight : (j : ℕ) → weight_at j (picked rows order) ≡ weight_at j rows
  picked-weight j = sum_by-IsPermutation nat_abs (numbers_in j rows) (numbers_in j (picked rows order)) (IsPermutation-map (number_in j) rows (picked rows order) is.moved)

  module _ (first : ℕ) (rest : List ℕ) (parts : order ≡ first ∷ rest) where
    pub first-wide : All (IsWide cs) rows → IsWide cs (row_at rows first)
    first-wide wide = subst (λ (l : List ℕ). All (IsWide cs) (picked rows l)) parts (picked-wide wide) 0 (row_at rows first) (omega arith)

    pub rest-wide : All (IsWide cs) rows → All (IsWide cs) (picked rows rest)
    rest-wide wide = All-tail (IsWide cs) (row_at rows first) (picked rows rest) (subst (λ (l : List ℕ). All (IsWide cs) (picked rows l)) parts (picked-wide wide))

    pub first-light : AddUp rows → (j : ℕ) → size_at j (row_at rows first).numbers + weight_at j (picked rows rest) ≤ mass_limit
    first-light adds j =
        (let all = sym (picked-weight j) ∙ ap (λ (l : List ℕ). weight_at j (picked rows l)) parts in
        omega (arith, all, column-cons j (row_at rows first) (picked rows rest), adds.fit j))

    pub first-makes : (f : Folding) → ((columns : List Column) (es : List (Key × List ℤ)) → Makes columns rows f es (neighbours columns (entry_at rows first ∷ es))) → Makes cs rows f (entries rows rest) (joined cs rows)
    first-makes f makes =
        subst (Makes cs rows f (entries rows rest)) (ap (λ (l : List ℕ). neighbours cs (entries rows l)) (sym parts) ∙ order-joined cs rows order is) (makes cs (entries rows rest))

  pub none-joined : order ≡ [] → joined cs rows ≡ []
  none-joined none = sym (order-joined cs rows order is) ∙ ap (λ (l : List ℕ). neighbours cs (entries rows l)) none

module _ (cs : List Column) (rows : List Row) (rest : List ℕ) (i at : ℕ) (low : i < length rest) (is : get_or rest i at ≡ at) where
  next-places : drop i rest ≡ at ∷ drop (i + 1) rest
  next-places = drop_more rest i at low ∙ ap (λ a. a ∷ drop (i + 1) rest) is

  pub next-makes : (old new : Folding) (whole : List (Key × List ℤ)) → ((es whole : List (Key × List ℤ)) → Makes cs rows old (entry_at rows at ∷ es) whole → Makes cs rows new es whole)
      → Makes cs rows old (entries rows (drop i rest)) whole → Makes cs rows new (entries rows (drop (i + 1) rest)) whole
  next-makes old new whole goes m = goes (entries rows (drop (i + 1) rest)) whole (subst (λ (l : List ℕ). Makes cs rows old (entries rows l) whole) next-places m)

  pub next-weight : (j : ℕ) → weight_at j (picked rows (drop i rest)) ≡ size_at j (row_at rows at).numbers + weight_at j (picked rows (drop (i + 1) rest))
  next-weight j = ap (λ (l : List ℕ). weight_at j (picked rows l)) next-places ∙ column-cons j (row_at rows at) (picked rows (drop (i + 1) rest))

  pub next-wide : All (IsWide cs) (picked rows rest) → IsWide cs (row_at rows at)
  next-wide wide =
      subst (IsWide cs) (get_or-map (row_at rows) rest i at (row_at rows at) low ∙ ap (row_at rows) is) (wide i (row_at rows at) (omega (arith, low, length-map rest (row_at rows))))

-- there is room for the next row
pub next-room : (cs : List Column) (rows : List Row) (at : ℕ) (sums : List ℤ) (weight : ℕ → ℕ) → IsWide cs (row_at rows at) → length sums ≡ length cs
    → ((j : ℕ) → size_at j sums + (size_at j (row_at rows at).numbers + weight j) ≤ mass_limit) → CanJoin cs (row_at rows at).numbers sums
next-room cs rows at sums weight wide long light = record { first = wide; second = long; fit = λ j. omega (arith, light j) }

no-places : (order : List ℕ) → length order ≡ 0 → order ≡ []
no-places [] long = refl
no-places (i ∷ order) long = absurd (omega (arith, long))

-- no place, no row
pub none-told : (cs : List Column) (rows : List Row) (order : List ℕ) → IsOrderOf rows order → length order ≡ 0 → joined cs rows ≡ []
none-told cs rows order is long = none-joined cs rows order is (no-places order long)

pub told-also : {A E : Type 0} (P Q : A → Type 0) (r : Result A E) → ((x : A) → P x → Q x) → IfOk r P → IfOk r Q
told-also P Q (Ok x) goes h = goes x h
told-also P Q (Err e) goes h = h
