-- What came at each key, and the roll-up.
use Rattle.std.proofs.Common.{◌≡◌, ◌<◌, inl, inr, ℕ, zero, suc, Bool, true, false, cond, List, [], ◌∷◌, ◌++◌, Option, Some, None, length, map, get_or, refl, sym, ap, ◌∙◌, arith}
use Rattle.std.proofs.lemmas.Bool.{cases_Bool}
use Rattle.cube_point.specs.declared.point.Entry.{Entry}
use Rattle.cube_point.specs.Points.{point_cmp}
use Rattle.cube_point.proofs.PointOrder.{point-only, point-total}
use Rattle.std.specs.Cmp.{tied_itself}
use Rattle.std.specs.Ordering.{is_eq}
use Rattle.fact_model.specs.declared.cell.Cell.{Cell}
use Rattle.fact_model.specs.Cell.{join}
use Rattle.fact_model.specs.Groups.{groups, is}
use Rattle.row_fold.specs.Ascends.{Ascends, Below}
use Rattle.row_fold.proofs.Grouping.{at, grouped}
use Rattle.row_fold.proofs.Grouping.{plus as added}
use Rattle.row_fold.proofs.Groups.{at-here, at-other, equal-from_is, plus-assoc, plus-none, same-entries, sum-entries}
use Rattle.row_fold.proofs.Regroup.{at-grouped, cell-law, grouped-ascends, groups-grouped}
use Rattle.spec_points.specs.Answer.{joined}
use Rattle.spec_points.specs.Entries.{pair_of}
use Rattle.spec_points.specs.Points.{PlacedCell}
use Rattle.spec_points.proofs.Cells.{join-assoc, join-comm}
use Rattle.audit_view.specs.Totals.{AllFound, IsNowhere, held, plus}

-- a place is itself
pub itself : (k : List ℕ) → is point_cmp k k ≡ true
itself k = ap is_eq (tied_itself point-total k)

plus-same : (a b : Option Cell) → plus a b ≡ added join a b
plus-same None b = refl
plus-same (Some c) None = refl
plus-same (Some c) (Some d) = refl

module _ (key : List ℕ → List ℕ) where
  -- the test of a key
  abbrev has : List ℕ → List ℕ → Bool
  has k place = is point_cmp k (key place)

  held-at : (k : List ℕ) (es : List PlacedCell) → held key k es ≡ at join (has k) es
  held-at k [] = refl
  held-at k (e ∷ es) = plus-same (cond (has k e.0) (Some e.1) None) (held key k es) ∙ ap (added join (cond (has k e.0) (Some e.1) None)) (held-at k es)

  -- the finer points, grouped
  abbrev pub rolled : List PlacedCell → List PlacedCell
  rolled es = groups point_cmp (λ (e : PlacedCell). key e.0) joined es

  rolled-grouped : (es : List PlacedCell) → rolled es ≡ grouped point_cmp join (λ (e : PlacedCell). key e.0) (λ e. e.1) es
  rolled-grouped es = groups-grouped point_cmp point-total point-only join join-comm join-assoc (λ (e : PlacedCell). key e.0) (λ e. e.1) joined (cell-law join (λ (e : PlacedCell). e.1) joined (λ e. refl) (λ e f rest. refl)) es

  rolled-at : (k : List ℕ) (es : List PlacedCell) → at join (is point_cmp k) (rolled es) ≡ held key k es
  rolled-at k es = ap (at join (is point_cmp k)) (rolled-grouped es)
      ∙ (at-grouped point_cmp point-total point-only join join-comm join-assoc (λ (e : PlacedCell). key e.0) (λ e. e.1) (is point_cmp k) es
      ∙ (sum-entries join join-comm join-assoc (has k) es ∙ sym (held-at k es)))

  -- where the coarser points say of each key what came at it, they are the roll-up
  rolls-up : (es cs : List PlacedCell) → Ascends point_cmp cs → ((k : List ℕ) → held key k es ≡ at join (is point_cmp k) cs) → rolled es ≡ cs
  rolls-up es cs order same = rolled-grouped es ∙ same-entries point_cmp point-total point-only join join-comm join-assoc
      (grouped point_cmp join (λ (e : PlacedCell). key e.0) (λ e. e.1) es) cs (grouped-ascends point_cmp point-total point-only join join-comm join-assoc (λ (e : PlacedCell). key e.0) (λ e. e.1) es) order
      (λ k. ap (at join (is point_cmp k)) (sym (rolled-grouped es)) ∙ (rolled-at k es ∙ same k))

  -- and the other way round
  rolled-held : (es cs : List PlacedCell) → rolled es ≡ cs → (k : List ℕ) → held key k es ≡ at join (is point_cmp k) cs
  rolled-held es cs same k = sym (rolled-at k es) ∙ ap (at join (is point_cmp k)) same

  -- two parts
  pub held-append : (k : List ℕ) (before more : List PlacedCell) → held key k (before ++ more) ≡ plus (held key k before) (held key k more)
  held-append k [] more = refl
  held-append k (d ∷ before) more =
      let one : Option Cell = cond (has k d.0) (Some d.1) None in
      plus-same one (held key k (before ++ more))
      ∙ (ap (added join one) (held-append k before more ∙ plus-same (held key k before) (held key k more))
      ∙ (sym (plus-assoc join join-comm join-assoc one (held key k before) (held key k more))
      ∙ ((λ i. added join (sym (plus-same one (held key k before)) i) (held key k more)) ∙ sym (plus-same (plus one (held key k before)) (held key k more)))))

  -- one point
  pub held-one : (k : List ℕ) (e : PlacedCell) → held key k (e ∷ []) ≡ cond (has k e.0) (Some e.1) None
  held-one k e = plus-same (cond (has k e.0) (Some e.1) None) None ∙ plus-none join join-comm join-assoc (cond (has k e.0) (Some e.1) None)

-- ---- what a list of points says at a key

abbrev says : List ℕ → List Entry → Option Cell
says k cs = at join (is point_cmp k) (map pair_of cs)

none-says : (k : List ℕ) (cs : List Entry) → IsNowhere cs k → says k cs ≡ None
none-says k [] h = refl
none-says k (c ∷ cs) h = at-other point_cmp point-total point-only join join-comm join-assoc k (pair_of c) (map pair_of cs) (h 0 c (omega arith)) ∙ none-says k cs (λ i d lt. h (suc i) d (omega (arith, lt)))

below-says : (c : Entry) (cs : List Entry) → Below point_cmp c.point.at (map pair_of cs) → (i : ℕ) (d : Entry) → i < length cs → is point_cmp (get_or cs i d).point.at c.point.at ≡ false
below-says c [] b i d lt = absurd (omega (arith, lt))
below-says c (e ∷ cs) b zero d lt = ap is_eq b.0
below-says c (e ∷ cs) b (suc i) d lt = below-says c cs b.1 i d (omega (arith, lt))

says-there : (cs : List Entry) → Ascends point_cmp (map pair_of cs) → (i : ℕ) (d : Entry) → i < length cs → says (get_or cs i d).point.at cs ≡ Some (get_or cs i d).cell
says-there [] order i d lt = absurd (omega (arith, lt))
says-there (c ∷ cs) order zero d lt = at-here point_cmp point-total point-only join join-comm join-assoc (pair_of c) (map pair_of cs) order.0
says-there (c ∷ cs) order (suc i) d lt = at-other point_cmp point-total point-only join join-comm join-assoc (get_or cs i d).point.at (pair_of c) (map pair_of cs) (below-says c cs order.0 i d (omega (arith, lt)))
    ∙ says-there cs order.1 i d (omega (arith, lt))

-- ---- which keys there are

data Member (k : List ℕ) (cs : List Entry) : Type 0 where
  is_member : {i : ℕ} → i < length cs → ((d : Entry) → (get_or cs i d).point.at ≡ k) → Member k cs
  no_member : IsNowhere cs k → Member k cs

member : (k : List ℕ) (cs : List Entry) → Member k cs
member k [] = no_member (λ i d lt. absurd (omega (arith, lt)))
member k (c ∷ cs) = elim (cases_Bool (is point_cmp k c.point.at)) [
  | inl here ↦ is_member {i = 0} (omega arith) (λ d. equal-from_is point_cmp point-total point-only c.point.at k here)
  | inr other ↦ by (member k cs) other
]
  where
    by : Member k cs → is point_cmp k c.point.at ≡ false → Member k (c ∷ cs)
    by (is_member {i = i} low at) other = is_member {i = suc i} (omega (arith, low)) at
    by (no_member none) other = no_member split
      where
        split : IsNowhere (c ∷ cs) k
        split zero d lt = other
        split (suc i) d lt = none i d (omega (arith, lt))

module _ (key : List ℕ → List ℕ) where
  held-none : (k : List ℕ) (es : List Entry) → ((n : ℕ) (d : Entry) → n < length es → is point_cmp k (key (get_or es n d).point.at) ≡ false) → held key k (map pair_of es) ≡ None
  held-none k [] h = refl
  held-none k (e ∷ es) h = ap (λ (b : Bool). plus (cond b (Some e.cell) None) (held key k (map pair_of es))) (h 0 e (omega arith)) ∙ held-none k es (λ n d lt. h (suc n) d (omega (arith, lt)))

  plus-some : (c : Cell) (o : Option Cell) → plus (Some c) o ≡ None → ⊥
  plus-some c None e = cc
  plus-some c (Some d) e = cc

  some-plus : (o : Option Cell) (p : Option Cell) → plus o p ≡ None → p ≡ None
  some-plus None p e = e
  some-plus (Some c) None e = refl
  some-plus (Some c) (Some d) e = absurd cc

  held-some : (k : List ℕ) (es : List Entry) (n : ℕ) (d : Entry) → n < length es → is point_cmp k (key (get_or es n d).point.at) ≡ true → held key k (map pair_of es) ≡ None → ⊥
  held-some k [] n d lt h none = omega (arith, lt)
  held-some k (e ∷ es) zero d lt h none = plus-some e.cell (held key k (map pair_of es)) (ap (λ (b : Bool). plus (cond b (Some e.cell) None) (held key k (map pair_of es))) (sym h) ∙ none)
  held-some k (e ∷ es) (suc n) d lt h none = held-some k es n d (omega (arith, lt)) h (some-plus (cond (is point_cmp k (key e.point.at)) (Some e.cell) None) (held key k (map pair_of es)) none)

  module _ (es cs : List Entry) (order : Ascends point_cmp (map pair_of cs)) where
    abbrev pub Rolled : Type 0
    Rolled = rolled key (map pair_of es) ≡ map pair_of cs

    -- where each coarser point has the joined cells of its finer ones, they are the roll-up
    pub complete : AllFound key cs es → ((i : ℕ) (c : Entry) → i < length cs → held key (get_or cs i c).point.at (map pair_of es) ≡ Some (get_or cs i c).cell) → Rolled
    complete found same = rolls-up key (map pair_of es) (map pair_of cs) order (λ k. by k (member k cs))
      where
        d : Entry
        d = record { point = record { arity = 0; at = [] }; cell = record { count = 0; measures = 0; parts = [] } }

        by : (k : List ℕ) → Member k cs → held key k (map pair_of es) ≡ says k cs
        by k (is_member {i = i} low at) =
            ap (λ (p : List ℕ). held key p (map pair_of es)) (sym (at d)) ∙ (same i d low ∙ (sym (says-there cs order i d low) ∙ ap (λ (p : List ℕ). says p cs) (at d)))
        by k (no_member none) =
            held-none k es (λ n e lt.
            let f = found n e lt in
            ap (is point_cmp k) (sym (f.stands.there d)) ∙ none f.index d f.stands.inside)
            ∙ sym (none-says k cs none)

    -- a finer point without a coarser one
    pub not-rolled : (n : ℕ) (d : Entry) → n < length es → IsNowhere cs (key (get_or es n d).point.at) → Rolled → ⊥
    not-rolled n d lt none same =
        held-some (key (get_or es n d).point.at) es n d lt (itself (key (get_or es n d).point.at))
        (rolled-held key (map pair_of es) (map pair_of cs) same (key (get_or es n d).point.at) ∙ none-says (key (get_or es n d).point.at) cs none)

    -- of a roll-up each point has the joined cells of its finer ones
    pub rolled-there : Rolled → (i : ℕ) (c : Entry) → i < length cs → held key (get_or cs i c).point.at (map pair_of es) ≡ Some (get_or cs i c).cell
    rolled-there same i c lt = rolled-held key (map pair_of es) (map pair_of cs) same (get_or cs i c).point.at ∙ says-there cs order i c lt
