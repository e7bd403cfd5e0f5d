-- Which cells of sorted points join: those of neighbours, and those of each key.
use Rattle.std.proofs.Common.{◌≡◌, ℕ, Bool, true, false, not, ◌&&◌, cond, List, [], ◌∷◌, map, filter, refl, sym, ◌∙◌, ap, subst, true≢false, inl, inr, ◌⊎◌, IsPermutation}
use Rattle.std.proofs.lemmas.Bool.{cases_Bool}
use Rattle.std.proofs.lemmas.List.Sorted.{All-permutation}
use Rattle.std.specs.Cmp.{tied_itself}
use Rattle.std.specs.declared.cmp.Ordering.{Ordering}
use Rattle.std.specs.declared.cmp.Ordering.TheVariants.{Less, Equal, Greater}
use Rattle.std.specs.List.{AllByRecursion}
use Rattle.std.specs.List.Sorted.{IsStableBy, ties}
use Rattle.std.specs.Ordering.{is_eq, is_gt, is_lt, ordering_reverse}
use Rattle.fact_model.specs.declared.cell.Cell.{Cell}
use Rattle.fact_model.specs.Cell.{join}
use Rattle.fact_model.specs.Groups.{is}
use Rattle.fact_model.specs.Value.{Key, key_cmp}
use Rattle.fact_model.proofs.ValueOrder.{key_cmp-IsAntisymmetric, key-total}
use Rattle.cube_point.specs.declared.point.Entry.{Entry}
use Rattle.spec_points.specs.Points.{View}
use Rattle.row_fold.proofs.Groups.{equal-from_is, greater-from_less}
use Rattle.spec_points.proofs.Members.{every-from_All, All-from_every, filter-same, every-one}
use Rattle.row_fold.proofs.Sorts.{InOrder}
use Rattle.attr_dict.specs.Book.{Book}
use Rattle.slice_rows.specs.Grouped.{AllJoin, NeighboursJoin, NeighboursJoinTo, cells_of, is_before, key_of_entry, keyed}

-- the cells of a key among pairs
abbrev cells_at : Key → List (Key × Cell) → List Cell
cells_at k es = map (λ (e : Key × Cell). e.1) (filter (λ e. is key_cmp k e.0) es)

cells-here : (k : Key) (e : Key × Cell) (es : List (Key × Cell)) → is key_cmp k e.0 ≡ true → cells_at k (e ∷ es) ≡ e.1 ∷ cells_at k es
cells-here k e es h = ap (λ (b : Bool). map (λ (e : Key × Cell). e.1) (cond b (e ∷ filter (λ e. is key_cmp k e.0) es) (filter (λ e. is key_cmp k e.0) es))) h

cells-other : (k : Key) (e : Key × Cell) (es : List (Key × Cell)) → is key_cmp k e.0 ≡ false → cells_at k (e ∷ es) ≡ cells_at k es
cells-other k e es h = ap (λ (b : Bool). map (λ (e : Key × Cell). e.1) (cond b (e ∷ filter (λ e. is key_cmp k e.0) es) (filter (λ e. is key_cmp k e.0) es))) h

same-is : (j k : Key) → is key_cmp k j ≡ true → j ≡ k
same-is j k h = equal-from_is key_cmp key-total key_cmp-IsAntisymmetric j k h

-- ---- keys in order

less-from : (r : Ordering) → is_gt r ≡ false → is_eq r ≡ false → r ≡ Less
less-from Less up other = refl
less-from Equal up other = absurd (true≢false other)
less-from Greater up other = absurd (true≢false up)

below-next : (k : Key) (d e : Key × Cell) → key_cmp k d.0 ≡ Less → is_gt (key_cmp d.0 e.0) ≡ false → key_cmp k e.0 ≡ Less
below-next k d e below up = elim (cases_Bool (is_eq (key_cmp d.0 e.0))) [
  | inl same ↦ subst (λ j. key_cmp k j ≡ Less) (same-is d.0 e.0 same) below
  | inr other ↦ key-total.trans k d.0 e.0 below (less-from (key_cmp d.0 e.0) up other)
]

-- a key below the first has no cells
no-cells : (k : Key) (d : Key × Cell) (es : List (Key × Cell)) → key_cmp k d.0 ≡ Less → InOrder key_cmp (d ∷ es) → cells_at k (d ∷ es) ≡ []
no-cells k d [] below up = cells-other k d [] (ap is_eq (greater-from_less key_cmp key-total key_cmp-IsAntisymmetric k d.0 below))
no-cells k d (e ∷ es) below up =
    cells-other k d (e ∷ es) (ap is_eq (greater-from_less key_cmp key-total key_cmp-IsAntisymmetric k d.0 below))
    ∙ no-cells k e es (below-next k d e below up.0) up.1

joined-order : (e d : Key × Cell) (es : List (Key × Cell)) → is key_cmp d.0 e.0 ≡ true → InOrder key_cmp (e ∷ d ∷ es) → InOrder key_cmp ((e.0, join e.1 d.1) ∷ es)
joined-order e d [] same up = tt
joined-order e d (f ∷ es) same up = (subst (λ k. is_gt (key_cmp k f.0) ≡ false) (sym (same-is e.0 d.0 same)) up.1.0, up.1.1)

-- ---- neighbours and keys

joins-of : (k : Key) (e : Key × Cell) (es : List (Key × Cell)) → NeighboursJoinTo e es → InOrder key_cmp (e ∷ es) → AllJoin (cells_at k (e ∷ es))
joins-of k e [] joins up = elim (cases_Bool (is key_cmp k e.0)) [
  | inl here ↦ subst AllJoin (sym (cells-here k e [] here)) tt
  | inr there ↦ subst AllJoin (sym (cells-other k e [] there)) tt
]
joins-of k e (d ∷ es) joins up = elim (cases_Bool (is key_cmp d.0 e.0)) [
  | inl same ↦
      let both : Key × Cell = (e.0, join e.1 d.1) in
      let first = joins.0 same in
      let rest = joins-of k both es first.1 (joined-order e d es same up) in
      elim (cases_Bool (is key_cmp k e.0)) [
        | inl here ↦
            let too : is key_cmp k d.0 ≡ true = ap (is key_cmp k) (sym (same-is e.0 d.0 same)) ∙ here in
            subst AllJoin (sym (cells-here k e (d ∷ es) here ∙ ap (λ cs. e.1 ∷ cs) (cells-here k d es too)))
            (first.0, subst AllJoin (cells-here k both es here) rest)
        | inr there ↦
            let too : is key_cmp k d.0 ≡ false = ap (is key_cmp k) (sym (same-is e.0 d.0 same)) ∙ there in
            subst AllJoin (cells-other k both es there ∙ sym (cells-other k e (d ∷ es) there ∙ cells-other k d es too)) rest
      ]
  | inr other ↦
      let rest = joins-of k d es (joins.1 other) up.1 in
      elim (cases_Bool (is key_cmp k e.0)) [
        | inl here ↦
            let below = less-from (key_cmp e.0 d.0) up.0 other in
            subst AllJoin (sym (cells-here k e (d ∷ es) here ∙ ap (λ cs. e.1 ∷ cs) (no-cells k d es (subst (λ j. key_cmp j d.0 ≡ Less) (same-is e.0 k here) below) up.1))) tt
        | inr there ↦ subst AllJoin (sym (cells-other k e (d ∷ es) there)) rest
      ]
]

joins-from : (e : Key × Cell) (es : List (Key × Cell)) → ((k : Key) → AllJoin (cells_at k (e ∷ es))) → InOrder key_cmp (e ∷ es) → NeighboursJoinTo e es
joins-from e [] joins up = tt
joins-from e (d ∷ es) joins up = (
  (λ same.
      let both : Key × Cell = (e.0, join e.1 d.1) in
      let here : is key_cmp e.0 e.0 ≡ true = ap is_eq (tied_itself key-total e.0) in
      let own : is key_cmp e.0 d.0 ≡ true = ap (is key_cmp e.0) (sym (same-is e.0 d.0 same)) ∙ here in
      let first = subst AllJoin (cells-here e.0 e (d ∷ es) here ∙ ap (λ cs. e.1 ∷ cs) (cells-here e.0 d es own)) (joins e.0) in (
        first.0,
        joins-from both es (λ k. elim (cases_Bool (is key_cmp k e.0)) [
          | inl this ↦
              let too : is key_cmp k d.0 ≡ true = ap (is key_cmp k) (sym (same-is e.0 d.0 same)) ∙ this in
              let all = subst AllJoin (cells-here k e (d ∷ es) this ∙ ap (λ cs. e.1 ∷ cs) (cells-here k d es too)) (joins k) in
              subst AllJoin (sym (cells-here k both es this)) all.1
          | inr there ↦
              let too : is key_cmp k d.0 ≡ false = ap (is key_cmp k) (sym (same-is e.0 d.0 same)) ∙ there in
              subst AllJoin (cells-other k e (d ∷ es) there ∙ (cells-other k d es too ∙ sym (cells-other k both es there))) (joins k)
        ]) (joined-order e d es same up),
      )),
  (λ other. joins-from d es (λ k. elim (cases_Bool (is key_cmp k e.0)) [
    | inl here ↦
        let below = less-from (key_cmp e.0 d.0) up.0 other in
        subst AllJoin (sym (no-cells k d es (subst (λ j. key_cmp j d.0 ≡ Less) (same-is e.0 k here) below) up.1)) tt
    | inr there ↦ subst AllJoin (cells-other k e (d ∷ es) there) (joins k)
  ]) up.1),
)

-- ---- points

module _ (b : Book) (view : View) (group : List ℕ) where
  abbrev key : Entry → Key
  key e = key_of_entry b view group e

  cells-keyed : (k : Key) (es : List Entry) → cells_of b view group k es ≡ cells_at k (map (keyed b view group) es)
  cells-keyed k [] = refl
  cells-keyed k (e ∷ es) = elim (cases_Bool (is key_cmp k (key e))) [
    | inl here ↦
        ap (λ (t : Bool). map (λ (e : Entry). e.cell) (cond t (e ∷ filter (λ e. is key_cmp k (key e)) es) (filter (λ e. is key_cmp k (key e)) es))) here
        ∙ (ap (λ cs. e.cell ∷ cs) (cells-keyed k es) ∙ sym (cells-here k (keyed b view group e) (map (keyed b view group) es) here))
    | inr there ↦
        ap (λ (t : Bool). map (λ (e : Entry). e.cell) (cond t (e ∷ filter (λ e. is key_cmp k (key e)) es) (filter (λ e. is key_cmp k (key e)) es))) there
        ∙ (cells-keyed k es ∙ sym (cells-other k (keyed b view group e) (map (keyed b view group) es) there))
  ]

  -- ---- ties

  tied : (r : Ordering) → (not (is_lt (ordering_reverse r)) && not (is_lt r)) ≡ is_eq r
  tied Less = refl
  tied Equal = refl
  tied Greater = refl

  tie-is : (x e : Entry) → ties (is_before b view group) x e ≡ is key_cmp (key x) (key e)
  tie-is x e = ap (λ r. not (is_lt r) && not (is_lt (key_cmp (key e) (key x)))) (key-total.antisymm (key x) (key e)) ∙ tied (key_cmp (key e) (key x))

  none : (p : Entry → Bool) (es : List Entry) → AllByRecursion (λ e. p e ≡ false) es → filter p es ≡ []
  none p [] other = refl
  none p (e ∷ es) other = ap (λ (t : Bool). cond t (e ∷ filter p es) (filter p es)) other.0 ∙ none p es other.1

  -- a point of the key, or there is none
  found : (k : Key) (es : List Entry) → ((x : Entry) × (key x ≡ k)) ⊎ AllByRecursion (λ e. is key_cmp k (key e) ≡ false) es
  found k [] = inr tt
  found k (e ∷ es) = elim (cases_Bool (is key_cmp k (key e))) [
    | inl here ↦ inl (e, same-is (key e) k here)
    | inr there ↦ elim (found k es) [ inl x ↦ inl x | inr other ↦ inr (there, other) ]
  ]

  -- the points of each key are in the same order
  cells-kept : (es sorted : List Entry) → IsPermutation es sorted → IsStableBy (is_before b view group) es sorted → (k : Key) → cells_of b view group k sorted ≡ cells_of b view group k es
  cells-kept es sorted moved stable k = elim (found k es) [
    | inl x ↦
        let test = λ (e : Entry). tie-is x.0 e ∙ ap (λ j. is key_cmp j (key e)) x.1 in
        let same : (ds : List Entry) → filter (ties (is_before b view group) x.0) ds ≡ filter (λ e. is key_cmp k (key e)) ds
        = λ ds. filter-same (ties (is_before b view group) x.0) (λ e. is key_cmp k (key e)) ds
        (every-one (λ e. ties (is_before b view group) x.0 e ≡ is key_cmp k (key e)) test ds) in
        ap (map (λ (e : Entry). e.cell)) (sym (same sorted) ∙ (stable x.0 ∙ same es))
    | inr other ↦
        let P : Entry → Type 0 = λ e. is key_cmp k (key e) ≡ false in
        let too = every-from_All P sorted (All-permutation P es sorted moved (All-from_every P es other)) in
        ap (map (λ (e : Entry). e.cell)) (none (λ e. is key_cmp k (key e)) sorted too ∙ sym (none (λ e. is key_cmp k (key e)) es other))
  ]

  -- where the sorted neighbours join, the cells of each key do, and the other way round
  module _ (es sorted : List Entry) (moved : IsPermutation es sorted) (stable : IsStableBy (is_before b view group) es sorted) (up : InOrder key_cmp (map (keyed b view group) sorted)) where
    pub each-key : NeighboursJoin (map (keyed b view group) sorted) → (k : Key) → AllJoin (cells_of b view group k es)
    each-key joins k = subst AllJoin (sym (cells-keyed k sorted) ∙ cells-kept es sorted moved stable k) (by (map (keyed b view group) sorted) joins up)
      where
        by : (ks : List (Key × Cell)) → NeighboursJoin ks → InOrder key_cmp ks → AllJoin (cells_at k ks)
        by [] joins up = tt
        by (e ∷ ks) joins up = joins-of k e ks joins up

    pub neighbours : ((k : Key) → AllJoin (cells_of b view group k es)) → NeighboursJoin (map (keyed b view group) sorted)
    neighbours joins = by (map (keyed b view group) sorted) (λ k. subst AllJoin (sym (cells-kept es sorted moved stable k) ∙ cells-keyed k sorted) (joins k)) up
      where
        by : (ks : List (Key × Cell)) → ((k : Key) → AllJoin (cells_at k ks)) → InOrder key_cmp ks → NeighboursJoin ks
        by [] joins up = tt
        by (e ∷ ks) joins up = joins-from e ks joins up
