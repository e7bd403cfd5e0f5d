-- Points by their numbers.
use Rattle.std.proofs.Common.{◌≡◌, ℕ, zero, suc, ◌+◌, ◌<◌, true, false, List, [], ◌∷◌, ◌++◌, map, length, get_or, refl, sym, ◌∙◌, ap, subst, arith, true≢false}
use Rattle.std.proofs.lemmas.List.{get_or-map, get_or_default, same_lists}
use Rattle.std.proofs.lemmas.List.FromFn.{get_or-map-range_with_len, get_or-range_with_len, length-map-range_with_len, length-range_with_len}
use Rattle.std.specs.List.{range_with_len}
use Rattle.std.specs.List.Sorted.{IsPermutation, IsSortedBy, IsStableBy}
use Rattle.std.proofs.lemmas.List.Sorted.{IsPermutation-refl}
use Rattle.std.specs.Ordering.{is_eq, is_lt, ordering_reverse}
use Rattle.std.specs.declared.cmp.Ordering.{Ordering}
use Rattle.std.specs.declared.cmp.Ordering.TheVariants.{Less, Equal, Greater}
use Rattle.fact_model.specs.Cell.{join}
use Rattle.fact_model.specs.Value.{key_cmp}
use Rattle.fact_model.proofs.ValueOrder.{key_cmp-IsAntisymmetric, key-total}
use Rattle.cube_point.specs.declared.point.Entry.{Entry}
use Rattle.spec_points.specs.Points.{View}
use Rattle.spec_points.proofs.Cells.{join-assoc}
use Rattle.row_fold.proofs.Squeezes.{squeezed-other}
use Rattle.attr_dict.specs.Book.{Book}
use Rattle.point_groups.specs.Bare.{nowhere}
use Rattle.slice_rows.specs.Grouped.{AreNumbers, IsOrderOf, KeysAscend, NeighboursJoin, NeighboursJoinTo, is_before, key_of_entry, keyed, picked}
use Rattle.slice_rows.specs.declared.key_order.Order.{Order}
use Rattle.slice_rows.proofs.KeyTurns.{squeezed_keys}

-- ---- the numbers of all points

one-more : (a n : ℕ) → range_with_len a (suc n) ≡ range_with_len a n ++ (a + n) ∷ []
one-more a zero = λ i. behind a i ∷ []
  where
    behind : (a : ℕ) → a ≡ a + zero
    behind a = omega arith
one-more a (suc n) = ap (λ ns. a ∷ ns) (one-more (a + 1) n ∙ ap (λ k. range_with_len (a + 1) n ++ k ∷ []) (on a n))
  where
    on : (a n : ℕ) → a + 1 + n ≡ a + suc n
    on a n = omega arith

pub range-more : (a n j : ℕ) → a + n ≡ j → range_with_len a (n + 1) ≡ range_with_len a n ++ j ∷ []
range-more a n j is = ap (range_with_len a) (next n) ∙ (one-more a n ∙ ap (λ k. range_with_len a n ++ k ∷ []) is)
  where
    next : (n : ℕ) → n + 1 ≡ suc n
    next n = omega arith

pub picked-all : (es : List Entry) (n : ℕ) → n ≡ length es → picked es (range_with_len 0 n) ≡ es
picked-all es n is =
    let at : ℕ → Entry = λ k. get_or es k nowhere in
    let long = length-map-range_with_len at 0 n in
    same_lists (picked es (range_with_len 0 n)) es (long ∙ is)
    (λ k d low. get_or-map-range_with_len at 0 n k k d (omega (arith, low, long)) (omega arith) ∙ get_or_default es k nowhere d (omega (arith, low, long, is)))

pub all-numbers : (es : List Entry) (n : ℕ) → n ≡ length es → AreNumbers es (range_with_len 0 n)
all-numbers es n is = λ k d low.
    let within : k < n = omega (arith, low, length-range_with_len 0 n) in
    omega (arith, get_or-range_with_len 0 n k d within, within, is)

-- one of them
pub picked-at : (es : List Entry) (numbers : List ℕ) (place n : ℕ) (d : Entry) → place < length numbers → n ≡ get_or numbers place n → n < length es
    → get_or es n d ≡ get_or (picked es numbers) place d
picked-at es numbers place n d low is within =
    get_or_default es n d nowhere within
    ∙ (ap (λ k. get_or es k nowhere) is ∙ sym (get_or-map (λ k. get_or es k nowhere) numbers place n d low))

-- ---- keys that ascend

later : (r : Ordering) → is_lt r ≡ true → is_lt (ordering_reverse r) ≡ false
later Less h = refl
later Equal h = absurd (true≢false (sym h))
later Greater h = absurd (true≢false (sym h))

other : (r : Ordering) → is_lt r ≡ true → is_eq r ≡ false
other Less h = refl
other Equal h = absurd (true≢false (sym h))
other Greater h = absurd (true≢false (sym h))

module _ (b : Book) (view : View) (group : List ℕ) where
  pub ascend-sorted : (es : List Entry) → KeysAscend b view group es → IsSortedBy (is_before b view group) es
  ascend-sorted es up k d from within =
      let one = key_of_entry b view group (get_or es k d) in
      let next = key_of_entry b view group (get_or es (k + 1) d) in
      ap is_lt (key-total.antisymm next one) ∙ later (key_cmp one next) (up k d within)

  -- so no two neighbours have one key
  apart : (d e : Entry) (es : List Entry) → KeysAscend b view group (d ∷ e ∷ es) → is_eq (key_cmp (key_of_entry b view group d) (key_of_entry b view group e)) ≡ false
  apart d e es up = other (key_cmp (key_of_entry b view group d) (key_of_entry b view group e)) (up 0 d (omega arith))

  rest-ascend : (d : Entry) (es : List Entry) → KeysAscend b view group (d ∷ es) → KeysAscend b view group es
  rest-ascend d es up k e within = subst (λ (n : ℕ). is_before b view group (get_or es k e) (get_or (d ∷ es) n e) ≡ true) (next k) (up (suc k) e (omega (arith, within)))
    where
      next : (k : ℕ) → suc k + 1 ≡ suc (k + 1)
      next k = omega arith

  pub ascend-squeezed : (es : List Entry) → KeysAscend b view group es → map (keyed b view group) es ≡ squeezed_keys b view group es
  ascend-squeezed [] up = refl
  ascend-squeezed (d ∷ []) up = refl
  ascend-squeezed (d ∷ e ∷ es) up =
      ap (λ ks. keyed b view group d ∷ ks) (ascend-squeezed (e ∷ es) (rest-ascend d (e ∷ es) up))
      ∙ sym (squeezed-other key_cmp key_cmp-IsAntisymmetric join join-assoc (keyed b view group d) (keyed b view group e) (map (keyed b view group) es) (apart d e es up))

  ascend-joins-to : (d : Entry) (es : List Entry) → KeysAscend b view group (d ∷ es) → NeighboursJoinTo (keyed b view group d) (map (keyed b view group) es)
  ascend-joins-to d [] up = tt
  ascend-joins-to d (e ∷ es) up = (λ same. absurd (true≢false (sym same ∙ apart d e es up)), λ _. ascend-joins-to e es (rest-ascend d (e ∷ es) up))

  pub ascend-join : (es : List Entry) → KeysAscend b view group es → NeighboursJoin (map (keyed b view group) es)
  ascend-join [] up = tt
  ascend-join (d ∷ es) up = ascend-joins-to d es up

  -- points whose keys ascend are in order as they stand
  pub ascend-order : (es : List Entry) (order : Order) → order.numbers.items ≡ range_with_len 0 (length es) → order.is_strict ≡ true → KeysAscend b view group es → IsOrderOf b view group es order
  ascend-order es order all strict up =
      let whole : picked es order.numbers.items ≡ es = ap (picked es) all ∙ picked-all es (length es) refl in
      record {
        numbers = subst (AreNumbers es) (sym all) (all-numbers es (length es) refl);
        moved = subst (IsPermutation es) (sym whole) (IsPermutation-refl es);
        sorted = subst (IsSortedBy (is_before b view group)) (sym whole) (ascend-sorted es up);
        stable = subst (λ (l : List Entry). IsStableBy (is_before b view group) es l) (sym whole) (λ e. refl);
        strict = (λ _. subst (KeysAscend b view group) (sym whole) up, λ _. strict);
      }
