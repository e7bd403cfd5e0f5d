-- The ranks of codes tell the order of the values that they stand for.
use Rattle.std.proofs.Common.{◌≡◌, ℕ, zero, suc, ◌+◌, ◌-◌, ◌<◌, ◌≤◌, ◌==◌, Bool, true, false, cond, if◌then◌else◌, leb-true, min, nat_le, List, [], ◌∷◌, length, get_or, Contains, Option, Some, None, unwrap_or, nat_eq, refl, sym, ◌∙◌, ap, subst, arith, true≢false, IsPermutation}
use Rattle.std.proofs.lemmas.Bool.{eqb-true, eq-eqb}
use Rattle.std.proofs.lemmas.List.{get_or-map, length-map}
use Rattle.std.proofs.lemmas.List.FromFn.{get_or-map-range_with_len, length-map-range_with_len}
use Rattle.std.proofs.lemmas.List.Elements.{All-contains}
use Rattle.std.proofs.lemmas.List.Sorted.{Contains-permutation, ranks_by, sorted_far}
use Rattle.std.specs.List.{All}
use Rattle.std.specs.List.Sorted.{IsSortedBy}
use Rattle.std.specs.Ordering.{is_lt, nat_cmp, ordering_reverse}
use Rattle.std.specs.declared.cmp.Ordering.{Ordering}
use Rattle.std.specs.declared.cmp.Ordering.TheVariants.{Less, Equal, Greater}
use Rattle.indexmap.specs.IndexMap.{get}
use Rattle.indexmap.specs.IndexSet.{index_set_len}
use Rattle.fact_model.specs.declared.fact.Value.{Value}
use Rattle.fact_model.specs.declared.fact.Value.TheVariants.{Word, Number}
use Rattle.fact_model.specs.Value.{value_cmp}
use Rattle.cube_schema.specs.declared.Kind.{Kind}
use Rattle.cube_schema.specs.declared.Kind.TheVariants as kind
use Rattle.cube_point.specs.declared.point.Entry.{Entry}
use Rattle.fact_model.specs.Limits.{number_limit}
use Rattle.spec_points.specs.Answer.{coordinate}
use Rattle.spec_points.specs.Codes.{Text, value_in}
use Rattle.spec_points.specs.Points.{View}
use Rattle.fact_model.proofs.ValueOrder.{value-total}
use Rattle.attr_dict.specs.Book.{Book, kind_at, names_at, value_for}
use Rattle.slice_rows.specs.Grouped.{value_at_code}
use Rattle.slice_rows.specs.Ranks.{HasCodes, IsBelow, IsKnown, KeepsRanks, TellOrder, comes_first, lesser, rank_among, rank_by, rank_for, values_of}
use Rattle.slice_rows.specs.declared.value_ranks.Ranks.{Ranks}
use Rattle.slice_rows.proofs.RankOrder.{IsThere, few-lesser, filter-mapped, front-passes, rank_in, rank-tells, same-lesser}

same-default : {X : Type 0} (xs : List X) (i : ℕ) (d e : X) → i < length xs → get_or xs i d ≡ get_or xs i e
same-default [] i d e low = absurd (omega arith)
same-default (x ∷ xs) zero d e low = refl
same-default (x ∷ xs) (suc i) d e low = same-default xs i d e (omega arith)

-- ---- the rank of a code among codes in the order of their values

module _ (b : Book) (a : ℕ) (codes : List ℕ) (up : IsSortedBy (comes_first b a) codes) where
  abbrev pub value : ℕ → Value
  value c = value_at_code b a c

  -- neither lesser nor equal the other way round
  turned-less : (r : Ordering) → is_lt (ordering_reverse r) ≡ false → (r ≡ Equal → ⊥) → r ≡ Less
  turned-less Less not_so other = refl
  turned-less Equal not_so other = absurd (other refl)
  turned-less Greater not_so other = absurd (true≢false not_so)

  up-to : (u v w : Value) → is_lt (value_cmp v u) ≡ false → value_cmp v w ≡ Less → value_cmp u w ≡ Less
  up-to u v w not_so less = by (value_cmp u v) refl
    where
      by : (r : Ordering) → value_cmp u v ≡ r → value_cmp u w ≡ Less
      by Less is = value-total.trans u v w is less
      by Equal is = value-total.congr u v w is ∙ less
      by Greater is = absurd (true≢false (sym (ap is_lt (value-total.antisymm v u ∙ ap ordering_reverse is)) ∙ not_so))

  -- one that differs from the code before it has as many lesser ones as there are codes before it
  pub rank-first : (i : ℕ) → i < length codes → (0 < i → value_cmp (value (get_or codes (i - 1) 0)) (value (get_or codes i 0)) ≡ Equal → ⊥)
      → rank_among b a codes (get_or codes i 0) ≡ i
  rank-first i low other =
      let order = ranks_by value-total value in
      let here = value (get_or codes i 0) in
      filter-mapped value (λ v. is_lt (value_cmp v here)) codes
      ∙ front-passes (λ c. is_lt (value_cmp (value c) here)) codes i 0 (omega arith)
      (λ j before.
      let last = value (get_or codes (i - 1) 0) in
      let back : (value_cmp last here) ≡ Less = turned-less (value_cmp last here)
      (ap is_lt (sym (value-total.antisymm here last)) ∙ sorted_far (comes_first b a) order codes up (i - 1) i 0 (omega arith) low) (other (omega arith)) in
      ap is_lt (up-to (value (get_or codes j 0)) last here (sorted_far (comes_first b a) order codes up j (i - 1) 0 (omega arith) (omega arith)) back))
      (λ j from within. sorted_far (comes_first b a) order codes up i j 0 from within)

  -- one whose value equals that before it has the same rank
  pub rank-same : (i : ℕ) → value_cmp (value (get_or codes (i - 1) 0)) (value (get_or codes i 0)) ≡ Equal
      → rank_among b a codes (get_or codes (i - 1) 0) ≡ rank_among b a codes (get_or codes i 0)
  rank-same i tied = same-lesser (values_of b a codes) (value (get_or codes (i - 1) 0)) (value (get_or codes i 0)) tied

-- the codes up to one more have their ranks
pub told-more : (rank : ℕ → ℕ) (codes : List ℕ) (i : ℕ) (key r : ℕ) (old new : ℕ → Option ℕ) → key ≡ get_or codes i 0 → r ≡ rank (get_or codes i 0)
    → ((q : ℕ) → new q ≡ cond (nat_eq key q) (Some r) (old q)) → ((j : ℕ) → j < i → old (get_or codes j 0) ≡ Some (rank (get_or codes j 0)))
    → (j : ℕ) → j < i + 1 → new (get_or codes j 0) ≡ Some (rank (get_or codes j 0))
told-more rank codes i key r old new at is update told j low = update (get_or codes j 0) ∙ by (nat_eq key (get_or codes j 0)) refl
  where
    by : (t : Bool) → nat_eq key (get_or codes j 0) ≡ t → cond t (Some r) (old (get_or codes j 0)) ≡ Some (rank (get_or codes j 0))
    by true same = ap Some (is ∙ ap rank (sym at ∙ eqb-true key (get_or codes j 0) same))
    by false other = told j (below (other-place))
      where
        other-place : j ≡ i → ⊥
        other-place e = absurd (true≢false (sym (eq-eqb key (get_or codes j 0) (at ∙ ap (λ k. get_or codes k 0) (sym e))) ∙ other))

        below : (j ≡ i → ⊥) → j < i
        below not_so = omega (arith, not_so)

-- ---- codes that are known

-- the code is known, and those that were known are so still
pub known-grown : (b : Book) (a : ℕ) (old new : List ℕ) (c : ℕ) → ((d : ℕ) → Contains old d → Contains new d) → IsKnown b a old c → IsKnown b a new c
known-grown b a old new c grown known = λ t is. grown c (known t is)

contains-mapped : (b : Book) (a : ℕ) (codes : List ℕ) (c : ℕ) → Contains codes c → Contains (values_of b a codes) (value_at_code b a c)
contains-mapped b a codes c there = (
  there.0,
  omega (arith, there.1, length-map codes (value_at_code b a)),
  get_or-map (value_at_code b a) codes there.0 c (value_at_code b a c) there.1 ∙ ap (value_at_code b a) there.2,
)

-- ---- what a code stands for

is-number : Value → Bool
is-number (Word t) = false
is-number (Number n) = true

no-word : {n : ℕ} {t : Text} → Number n ≡ Word t → ⊥
unfolding is-number
no-word is = true≢false (ap is-number is)

code-low : (names : List Text) (t : Text) (c : ℕ) → unwrap_or (value_in true names c) (Number 0) ≡ Word t → (0 < c) × (c ≤ length names)
code-low names t zero is = absurd (no-word is)
code-low [] t (suc i) is = absurd (no-word is)
code-low (n ∷ names) t (suc zero) is = (omega arith, omega arith)
code-low (n ∷ names) t (suc (suc i)) is = let rest = code-low names t (suc i) is in (omega arith, omega (arith, rest.1))

no-text : (names : List Text) (t : Text) (c : ℕ) → unwrap_or (value_for kind.Number names c) (Number 0) ≡ Word t → ⊥
no-text names t zero is = no-word is
no-text names t (suc n) is = by (nat_le (suc n) (suc number_limit)) is
  where
    by : (b : Bool) → unwrap_or (if b then Some (Number n) else None) (Number 0) ≡ Word t → ⊥
    by true h = no-word h
    by false h = no-word h

word-low : (names : List Text) (c n : ℕ) → unwrap_or (value_in true names c) (Number 0) ≡ Number n → n ≡ 0
word-low names zero n is = cc
word-low [] (suc i) n is = cc
word-low (t ∷ names) (suc zero) n is = cc
word-low (t ∷ names) (suc (suc i)) n is = word-low names (suc i) n is

same-number : (m n : ℕ) → Number m ≡ Number n → m ≡ n
same-number m n is = cc

number-below : (names : List Text) (c n : ℕ) → unwrap_or (value_for kind.Number names c) (Number 0) ≡ Number n → (n ≤ c) × (n ≤ number_limit)
number-below names zero n is = let same = same-number 0 n is in (omega arith, omega arith)
number-below names (suc m) n is = by (nat_le (suc m) (suc number_limit)) refl is
  where
    by : (b : Bool) → nat_le (suc m) (suc number_limit) ≡ b → unwrap_or (if b then Some (Number m) else None) (Number 0) ≡ Number n → (n ≤ suc m) × (n ≤ number_limit)
    by true within h = let same = same-number m n h in let low = leb-true (suc m) (suc number_limit) within in (omega arith, omega arith)
    by false past h = let same = same-number 0 n h in (omega arith, omega arith)

-- a number is at most its code
number-low : (b : Book) (a c n : ℕ) → value_at_code b a c ≡ Number n → (n ≤ c) × (n ≤ number_limit)
number-low b a c n is = by (kind_at b a) is
  where
    by : (k : Kind) → unwrap_or (value_for k (names_at b a) c) (Number 0) ≡ Number n → (n ≤ c) × (n ≤ number_limit)
    by (kind.Word max) h = let none = word-low (names_at b a) c n h in (omega arith, omega arith)
    by kind.Number h = number-below (names_at b a) c n h

-- ---- ranks as they are kept

module _ (b : Book) (view : View) (r : Ranks) (sorted : List ℕ) (len : index_set_len r.codes ≡ length sorted)
    (told : (i : ℕ) → i < length sorted → get nat_eq r.texts (get_or sorted i 0) ≡ Some (rank_among b r.attr sorted (get_or sorted i 0))) where
  abbrev vs : List Value
  vs = values_of b r.attr sorted

  kept-rank : (v : Value) (c : ℕ) → v ≡ value_at_code b r.attr c → ((t : List ℕ) → v ≡ Word t → Contains sorted c) → (rank_for r v c ≡ rank_in vs v) × IsThere vs v
  kept-rank (Word t) c is known =
      let there = known t refl in
      let at : get_or sorted there.0 0 ≡ c = same-default sorted there.0 0 c there.1 ∙ there.2 in (
        ap (λ o. unwrap_or o 0) (subst (λ (k : ℕ). get nat_eq r.texts k ≡ Some (rank_among b r.attr sorted k)) at (told there.0 there.1)) ∙ ap (lesser vs) (sym is),
        subst (Contains vs) (sym is) (contains-mapped b r.attr sorted c there),
      )
  kept-rank (Number n) c is known = (omega (arith, len, length-map sorted (value_at_code b r.attr)), tt)

  pub tell-order : (es : List Entry) (codes : List ℕ) → IsPermutation codes sorted → All (λ (e : Entry). IsKnown b r.attr codes (coordinate view e.point.at r.attr)) es
      → TellOrder b view r es
  tell-order es codes moved known d e one other =
      let at : Entry → ℕ = λ e. coordinate view e.point.at r.attr in
      let kept = λ (e : Entry) (in-es : Contains es e). kept-rank (value_at_code b r.attr (at e)) (at e) refl
      (λ t is. Contains-permutation codes sorted (at e) moved (All-contains (λ (e : Entry). IsKnown b r.attr codes (at e)) es e known in-es t is)) in
      (λ i. nat_cmp ((kept d one).0 i) ((kept e other).0 i))
      ∙ rank-tells vs (value_at_code b r.attr (at d)) (value_at_code b r.attr (at e)) (kept d one).1 (kept e other).1

  rank-most : (v : Value) (c top : ℕ) → v ≡ value_at_code b r.attr c → ((t : List ℕ) → v ≡ Word t → Contains sorted c) → ((n : ℕ) → v ≡ Number n → n ≤ top)
      → rank_for r v c ≤ index_set_len r.codes + top
  rank-most (Word t) c top is known small =
      let rank = (kept-rank (Word t) c is known).0 in omega (arith, rank, len, few-lesser vs (Word t), length-map sorted (value_at_code b r.attr))
  rank-most (Number n) c top is known small = omega (arith, small n refl)

  -- the ranks of the values at the points are below the count, which has room for all texts and for the greatest number
  pub ranks-below : (es : List Entry) (codes : List ℕ) (greatest top : ℕ) → IsPermutation codes sorted
      → All (λ (e : Entry). IsKnown b r.attr codes (coordinate view e.point.at r.attr)) es → All (λ (e : Entry). coordinate view e.point.at r.attr ≤ greatest) es
      → ((n : ℕ) → n ≤ greatest → n ≤ number_limit → n ≤ top) → r.count ≡ index_set_len r.codes + top + 1 → All (λ (e : Entry). IsBelow b view e r) es
  ranks-below es codes greatest top moved known low room is k d within =
      let code = coordinate view (get_or es k d).point.at r.attr in
      let most = rank-most (value_at_code b r.attr code) code top refl (λ t text. Contains-permutation codes sorted code moved (known k d within t text))
      (λ n number. let small = number-low b r.attr code n number in room n (omega (arith, small, low k d within)) small.1) in
      omega (arith, most, is)

pub within-both : (n x y low : ℕ) → low ≡ min x y → n ≤ x → n ≤ y → n ≤ low
within-both n x y low is one other = omega arith

-- a rank that is kept
pub first-rank : (b : Book) (r : Ranks) (c rank : ℕ) → KeepsRanks b r → c < length r.firsts.items → rank ≡ get_or r.firsts.items c rank → rank ≡ rank_by b r c
first-rank b r c rank kept low is =
    let count = kept.0 in
    let within : c < count = omega (arith, low, ap length kept.1, length-map-range_with_len (rank_by b r) 0 count) in
    let from : 0 + c ≡ c = omega arith in
    is ∙ (ap (λ (ranks : List ℕ). get_or ranks c rank) kept.1 ∙ get_or-map-range_with_len (rank_by b r) 0 count c c rank within from)

-- ---- one point more

pub known-more : (b : Book) (a : ℕ) (view : View) (es : List Entry) (i : ℕ) (e : Entry) (old new : List ℕ) → i < length es → ((c : ℕ) → Contains old c → Contains new c)
    → IsKnown b a new (coordinate view (get_or es i e).point.at a) → ((k : ℕ) (d : Entry) → k < i → IsKnown b a old (coordinate view (get_or es k d).point.at a))
    → (k : ℕ) (d : Entry) → k < i + 1 → IsKnown b a new (coordinate view (get_or es k d).point.at a)
known-more b a view es i e old new within grown here before k d low = by (k == i) refl
  where
    by : (t : Bool) → (k == i) ≡ t → IsKnown b a new (coordinate view (get_or es k d).point.at a)
    by true same =
        let at : k ≡ i = eqb-true k i same in
        subst (λ (x : Entry). IsKnown b a new (coordinate view x.point.at a)) (same-default es i e d within ∙ ap (λ n. get_or es n d) (sym at)) here
    by false other = known-grown b a old new (coordinate view (get_or es k d).point.at a) grown (before k d (below (λ at. true≢false (sym (eq-eqb k i at) ∙ other))))
      where
        below : (k ≡ i → ⊥) → k < i
        below apart = omega (arith, apart)

-- ---- the codes of all names

-- a code that stands for a text is that of a name
pub named : (b : Book) (a : ℕ) (codes : List ℕ) (c : ℕ) → HasCodes (length (names_at b a)) codes → IsKnown b a codes c
named b a codes c has t is = by (kind_at b a) is
  where
    by : (k : Kind) → unwrap_or (value_for k (names_at b a) c) (Number 0) ≡ Word t → Contains codes c
    by (kind.Word max) h = let low = code-low (names_at b a) t c h in has c low.0 low.1
    by kind.Number h = absurd (no-text (names_at b a) t c h)
