-- Points sorted by their ranks are in the order of their keys.
use Rattle.std.proofs.Common.{◌≡◌, ◌↔◌, Bool, IsTrue, ℕ, zero, suc, ◌<◌, ◌+◌, List, [], ◌∷◌, map, take, drop, length, get_or, Contains, refl, sym, ◌∙◌, ap, subst, arith, IsPermutation}
use Rattle.std.proofs.lemmas.Cmp.{on_total, then_total}
use Rattle.std.proofs.lemmas.List.{get_or-map, get_or_default, length-map}
use Rattle.std.proofs.lemmas.List.Sorted.{All-permutation, IsPermutation-map, ranks_by}
use Rattle.std.specs.Cmp.{IsStrictWeakOrder, nat_cmp_total}
use Rattle.std.specs.List.{All, AllByRecursion}
use Rattle.std.specs.List.Sorted.{IsSortedBy, IsStableBy}
use Rattle.std.specs.Ordering.{is_lt, nat_cmp, ordering_then}
use Rattle.fact_model.specs.Value.{key_cmp}
use Rattle.cube_point.specs.declared.point.Entry.{Entry}
use Rattle.spec_points.specs.Points.{View}
use Rattle.spec_points.proofs.Members.{All-from_every, every-from_All}
use Rattle.fact_model.proofs.ValueOrder.{key-total}
use Rattle.attr_dict.specs.Book.{Book}
use Rattle.point_groups.specs.Bare.{nowhere}
use Rattle.slice_rows.specs.Grouped.{AreNumbers, IsOrderOf, KeysAscend, is_before, key_of_entry, picked}
use Rattle.slice_rows.specs.Keys.{IsRanked, RanksAscend, comes_before, entry_in, number_in}
use Rattle.slice_rows.specs.Ranks.{IsBelow, TellOrder}
use Rattle.slice_rows.specs.declared.key_order.Order.{Order}
use Rattle.slice_rows.specs.declared.rank_sort.Ranked.{Ranked}
use Rattle.slice_rows.specs.declared.value_ranks.Ranks.{Ranks}
use Rattle.slice_rows.proofs.RankKeys.{below-one, ranks-keys}
use Rattle.slice_rows.proofs.RankSorts.{sorted-members, stable-members}

-- ---- the attributes that are ranked are declared

every-front : {X : Type 0} (P : X → Type 0) (n : ℕ) (xs : List X) → AllByRecursion P xs → AllByRecursion P (take n xs)
every-front P zero xs all = tt
every-front P (suc n) [] all = tt
every-front P (suc n) (x ∷ xs) all = (all.0, every-front P n xs all.1)

every-mapped : {X Y : Type 0} (f : X → Y) (P : Y → Type 0) (xs : List X) → AllByRecursion P (map f xs) → AllByRecursion (λ x. P (f x)) xs
every-mapped f P [] all = tt
every-mapped f P (x ∷ xs) all = (all.0, every-mapped f P xs all.1)

pub attrs-declared : (n : ℕ) (rs : List Ranks) (group : List ℕ) → map (λ (r : Ranks). r.attr) rs ≡ take (length rs) group → All (λ a. a < n) group → All (λ (r : Ranks). r.attr < n) rs
attrs-declared n rs group are declared =
    let P : ℕ → Type 0 = λ a. a < n in
    All-from_every (λ (r : Ranks). r.attr < n) rs
    (every-mapped (λ (r : Ranks). r.attr) P rs (subst (AllByRecursion P) (sym are) (every-front P (length rs) group (every-from_All P group declared))))

-- ---- the numbers of points

nothing_ranked : Ranked
nothing_ranked = record { rank = 0; number = 0 }

numbered-picked : (b : Book) (view : View) (tables : List Ranks) (es : List Entry) (rs : List Ranked) → AllByRecursion (IsRanked b view tables es) rs
    → picked es (map number_in rs) ≡ map (entry_in es) rs
numbered-picked b view tables es [] all = refl
numbered-picked b view tables es (r ∷ rs) all =
    ap (λ (l : List Entry). get_or es r.number nowhere ∷ l) (numbered-picked b view tables es rs all.1)

numbered-low : (b : Book) (view : View) (tables : List Ranks) (es : List Entry) (rs : List Ranked) → All (IsRanked b view tables es) rs → AreNumbers es (map number_in rs)
numbered-low b view tables es rs all k d low =
    let within : k < length rs = omega (arith, low, length-map rs number_in) in
    subst (λ (n : ℕ). n < length es) (sym (get_or-map number_in rs k nothing_ranked d within)) (all k nothing_ranked within).low

-- ---- the order of ranks

module _ (b : Book) (view : View) (rest : List ℕ) (es : List Entry) where
  pub comes_before-order : IsStrictWeakOrder (comes_before b view rest es)
  comes_before-order = ranks_by
      (then_total (on_total (λ (r : Ranked). r.rank) nat_cmp_total) (on_total (λ (r : Ranked). key_of_entry b view rest (entry_in es r)) key-total))
      (λ (r : Ranked). r)

-- these points were ranked by the tables of the first attributes, and sorted
pub record AreRanked (b : Book) (view : View) (group rest : List ℕ) (es : List Entry) (tables : List Ranks) (ranked sorted : List Ranked) : Type 0 where
  pub attrs : map (λ (r : Ranks). r.attr) tables ≡ take (length tables) group
  pub others : rest ≡ drop (length tables) group
  pub tell : All (λ (r : Ranks). TellOrder b view r es) tables
  pub below : All (λ (r : Ranks). All (λ (e : Entry). IsBelow b view e r) es) tables
  pub points : map (entry_in es) ranked ≡ es
  pub ranks : All (IsRanked b view tables es) ranked
  pub moved : IsPermutation ranked sorted

module _ {b : Book} {view : View} {group rest : List ℕ} {es : List Entry} {tables : List Ranks} {ranked sorted : List Ranked}
    (are : AreRanked b view group rest es tables ranked sorted) where
  abbrev before : Ranked → Ranked → Bool
  before = comes_before b view rest es

  abbrev IsOne : Ranked → Type 0
  IsOne = IsRanked b view tables es

  is-there : (r : Ranked) → IsOne r → Contains es (entry_in es r)
  is-there r one = (r.number, one.low, get_or_default es r.number (entry_in es r) nowhere one.low)

  agree : (r s : Ranked) → IsOne r → IsOne s → before r s ≡ is_lt (key_cmp (key_of_entry b view group (entry_in es r)) (key_of_entry b view group (entry_in es s)))
  agree r s one other =
      let d = entry_in es r in
      let e = entry_in es s in
      (λ i. is_lt (ordering_then (nat_cmp (one.rank i) (other.rank i)) (key_cmp (key_of_entry b view (are.others i) d) (key_of_entry b view (are.others i) e))))
      ∙ ap is_lt (ranks-keys b view es d e (is-there r one) (is-there s other) tables group are.attrs (every-from_All (λ (r : Ranks). TellOrder b view r es) tables are.tell)
      (below-one b view es d tables (is-there r one) are.below) (below-one b view es e tables (is-there s other) are.below))

  ranked-moved : IsPermutation es (map (entry_in es) sorted)
  ranked-moved = subst (λ (l : List Entry). IsPermutation l (map (entry_in es) sorted)) are.points (IsPermutation-map (entry_in es) ranked sorted are.moved)

  ranked-sorted : IsSortedBy before sorted → IsSortedBy (is_before b view group) (map (entry_in es) sorted)
  ranked-sorted up = sorted-members (entry_in es) before (key_of_entry b view group) key_cmp key-total IsOne agree
      (λ e. nothing_ranked) sorted (All-permutation IsOne ranked sorted are.moved are.ranks) up

  ranked-stable : IsStableBy before ranked sorted → IsStableBy (is_before b view group) es (map (entry_in es) sorted)
  ranked-stable stable = subst (λ (l : List Entry). IsStableBy (is_before b view group) l (map (entry_in es) sorted)) are.points
      (stable-members (entry_in es) before (key_of_entry b view group) key_cmp key-total IsOne agree ranked sorted are.moved are.ranks stable)

  -- the ranks ascend where the keys do, and only there
  ranked-strict : RanksAscend b view rest es sorted ↔ KeysAscend b view group (map (entry_in es) sorted)
  ranked-strict = (to_keys, to_ranks)
    where
      ones : All IsOne sorted
      ones = All-permutation IsOne ranked sorted are.moved are.ranks

      to_keys : RanksAscend b view rest es sorted → KeysAscend b view group (map (entry_in es) sorted)
      to_keys up k d within =
          let low : k + 1 < length sorted = omega (arith, within, length-map sorted (entry_in es)) in
          let back : k < length sorted = omega (arith, low) in
          let at : (j : ℕ) → j < length sorted → get_or (map (entry_in es) sorted) j d ≡ entry_in es (get_or sorted j nothing_ranked) = λ j in_it. get_or-map (entry_in es) sorted j nothing_ranked d in_it in
          (λ i. is_before b view group (at k back i) (at (k + 1) low i))
          ∙ (sym (agree (get_or sorted k nothing_ranked) (get_or sorted (k + 1) nothing_ranked) (ones k nothing_ranked back) (ones (k + 1) nothing_ranked low)) ∙ up k nothing_ranked low)

      to_ranks : KeysAscend b view group (map (entry_in es) sorted) → RanksAscend b view rest es sorted
      to_ranks up k d low =
          let back : k < length sorted = omega (arith, low) in
          let at : (j : ℕ) → j < length sorted → get_or (map (entry_in es) sorted) j (entry_in es d) ≡ entry_in es (get_or sorted j d) = λ j in_it. get_or-map (entry_in es) sorted j d (entry_in es d) in_it in
          agree (get_or sorted k d) (get_or sorted (k + 1) d) (ones k d back) (ones (k + 1) d low)
          ∙ (sym (λ i. is_before b view group (at k back i) (at (k + 1) low i)) ∙ up k (entry_in es d) (omega (arith, low, length-map sorted (entry_in es))))

  -- the numbers of the sorted points tell the order of keys
  pub ranked-order : (order : Order) → order.numbers.items ≡ map number_in sorted → IsSortedBy before sorted → IsStableBy before ranked sorted
      → IsTrue order.is_strict ↔ RanksAscend b view rest es sorted → IsOrderOf b view group es order
  ranked-order order is up still strict =
      let each : All IsOne sorted = All-permutation IsOne ranked sorted are.moved are.ranks in
      let points : picked es order.numbers.items ≡ map (entry_in es) sorted = ap (picked es) is ∙ numbered-picked b view tables es sorted (every-from_All IsOne sorted each) in
      record {
        numbers = subst (AreNumbers es) (sym is) (numbered-low b view tables es sorted each);
        moved = subst (IsPermutation es) (sym points) ranked-moved;
        sorted = subst (IsSortedBy (is_before b view group)) (sym points) (ranked-sorted up);
        stable = subst (λ (l : List Entry). IsStableBy (is_before b view group) es l) (sym points) (ranked-stable still);
        strict = (λ yes. subst (KeysAscend b view group) (sym points) (ranked-strict.0 (strict.0 yes)), λ keys. strict.1 (ranked-strict.1 (subst (KeysAscend b view group) points keys)));
      }
