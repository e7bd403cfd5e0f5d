-- One point of the finer view more.
use Rattle.std.proofs.Common.{◌≡◌, ◌<◌, ◌+◌, ◌^◌, inl, inr, ℕ, Bool, true, false, cond, List, [], ◌∷◌, ◌++◌, Option, Some, None, drop, length, map, get_or, take, refl, sym, ap, ◌∙◌, arith, subst, true≢false}
use Rattle.std.proofs.lemmas.Bool.{and_parts, cases_Bool, cases_lt, eqb-true, eqb-false, ltb-true}
use Rattle.std.proofs.lemmas.List.{get_or_default, get_or-take, length-take, map-append, take-append-drop, take_more}
use Rattle.std.specs.Prelude.{◌==◌, nat_lt}
use Rattle.std.specs.List.{All}
use Rattle.std.specs.declared.cmp.Ordering.TheVariants.{Less}
use Rattle.std.specs.Ordering.{is_eq}
use Rattle.cube_point.specs.declared.point.Entry.{Entry}
use Rattle.cube_point.specs.Points.{point_cmp}
use Rattle.cube_point.proofs.PointOrder.{point-only, point-total}
use Rattle.fact_model.specs.declared.cell.Cell.{Cell}
use Rattle.fact_model.specs.Groups.{is}
use Rattle.cube_point.specs.declared.point.Shape.{Shape}
use Rattle.page_entry.specs.Entries.{ascend, entry_before}
use Rattle.page_entry.specs.Stored.{FitsLeaf}
use Rattle.row_fold.proofs.Groups.{equal-from_is}
use Rattle.spec_points.specs.Entries.{pair_of}
use Rattle.audit_view.specs.declared.total.Total.{Total}
use Rattle.audit_view.specs.Totals.{AllFound, AreNone, HoldsAll, HoldsSum, IsFound, IsOver, IsTakenIn, StandsAt, held, plus}
use Rattle.audit_view.proofs.Order.{ascends-from, pair-less}
use Rattle.audit_view.proofs.Held.{Rolled, itself, held-append, held-one, rolled-there}

-- each point has a fact, and no more than 64 bits tell
pub some-facts : (shape : Shape) (es : List Entry) (n : ℕ) (d : Entry) → n < length es → All (FitsLeaf shape) es → 0 < (get_or es n d).cell.count
some-facts shape es n d lt good = let both = and_parts (nat_lt 0 (get_or es n d).cell.count) _ (good n d lt).cell in ltb-true 0 (get_or es n d).cell.count both.0

pub few-facts : (shape : Shape) (es : List Entry) (n : ℕ) (d : Entry) → n < length es → All (FitsLeaf shape) es → (get_or es n d).cell.count < 2 ^ 64
few-facts shape es n d lt good = (good n d lt).count

module _ (key : List ℕ → List ℕ) (measures : ℕ) (cs : List Entry) where
  pub holds-begins : (totals : List Total) → AreNone (length cs) totals → HoldsAll key measures cs [] totals
  holds-begins totals are i c t lt = are.none i t (omega (arith, lt, are.many))

  -- two numbers of points at one place are the same
  one-place : ascend entry_before cs ≡ true → (i j : ℕ) (c d : Entry) → i < length cs → j < length cs → (get_or cs i c).point.at ≡ (get_or cs j d).point.at → i ≡ j
  one-place order i j c d low high same = elim (cases_lt i j) [
    | inl lt ↦ absurd (less-not (get_or cs i c).point.at (get_or cs j d).point.at same (pair-less cs (ascends-from cs order) i j c d lt high))
    | inr not ↦ elim (cases_lt j i) [
      | inl lt ↦ absurd (less-not (get_or cs j d).point.at (get_or cs i c).point.at (sym same) (pair-less cs (ascends-from cs order) j i d c lt low))
      | inr neither ↦ omega (arith, not, neither)
    ]
  ]
    where
      less-not : (p q : List ℕ) → p ≡ q → point_cmp p q ≡ Less → ⊥
      less-not p q e less = true≢false (sym (itself p) ∙ (ap (λ (r : List ℕ). is point_cmp r p) e ∙ ap is_eq less))

  more-held : (before : List Entry) (e : Entry) (k : List ℕ) → held key k (map pair_of (before ++ e ∷ [])) ≡ plus (held key k (map pair_of before)) (cond (is point_cmp k (key e.point.at)) (Some e.cell) None)
  more-held before e k = ap (held key k) (map-append pair_of before (e ∷ [])) ∙ (held-append key k (map pair_of before) (pair_of e ∷ []) ∙ ap (plus (held key k (map pair_of before))) (held-one key k (pair_of e)))

  module _ (before : List Entry) (e : Entry) (old new : List Total) (found : ℕ) (at : IsTakenIn cs (key e.point.at) e.cell old new found) (measured : e.cell.measures ≡ measures) where
    plus-none' : (o : Option Cell) → plus o None ≡ o
    plus-none' None = refl
    plus-none' (Some c) = refl

    pub holds-more : ascend entry_before cs ≡ true → HoldsAll key measures cs before old → HoldsAll key measures cs (before ++ e ∷ []) new
    holds-more order holds i c t lt = elim (cases_Bool (i == found)) [
      | inl same ↦
          let here : found ≡ i = sym (eqb-true i found same) in
          let place : (get_or cs i c).point.at ≡ key e.point.at = ap (λ (n : ℕ). (get_or cs n c).point.at) (sym here) ∙ at.stands.there c in
          let test : is point_cmp (get_or cs i c).point.at (key e.point.at) ≡ true = ap (λ (p : List ℕ). is point_cmp p (key e.point.at)) place ∙ itself (key e.point.at) in
          let now : held key (get_or cs i c).point.at (map pair_of (before ++ e ∷ [])) ≡ plus (held key (get_or cs i c).point.at (map pair_of before)) (Some e.cell)
          = more-held before e (get_or cs i c).point.at ∙ ap (λ (b : Bool). plus (held key (get_or cs i c).point.at (map pair_of before)) (cond b (Some e.cell) None)) test in
          let joined = at.joined measures (held key (get_or cs i c).point.at (map pair_of before)) t measured (subst (λ (n : ℕ). HoldsSum measures (held key (get_or cs i c).point.at (map pair_of before)) (get_or old n t)) (sym here) (holds i c t lt)) in
          subst (λ (o : Option Cell). HoldsSum measures o (get_or new i t)) (sym now)
          (subst (λ (n : ℕ). HoldsSum measures (plus (held key (get_or cs i c).point.at (map pair_of before)) (Some e.cell)) (get_or new n t)) here joined)
      | inr other ↦
          let differ : i ≡ found → ⊥ = eqb-false i found other in
          let test : is point_cmp (get_or cs i c).point.at (key e.point.at) ≡ false = (elim (cases_Bool (is point_cmp (get_or cs i c).point.at (key e.point.at))) [
            | inl alike ↦ absurd (differ (one-place order i found c c lt at.stands.inside (sym (equal-from_is point_cmp point-total point-only (key e.point.at) (get_or cs i c).point.at alike) ∙ sym (at.stands.there c))))
            | inr apart ↦ apart
          ]) in
          let now : held key (get_or cs i c).point.at (map pair_of (before ++ e ∷ [])) ≡ held key (get_or cs i c).point.at (map pair_of before)
          = more-held before e (get_or cs i c).point.at ∙ (ap (λ (b : Bool). plus (held key (get_or cs i c).point.at (map pair_of before)) (cond b (Some e.cell) None)) test ∙ plus-none' (held key (get_or cs i c).point.at (map pair_of before))) in
          subst (λ (o : Option Cell). HoldsSum measures o (get_or new i t)) (sym now) (subst (HoldsSum measures (held key (get_or cs i c).point.at (map pair_of before))) (sym (at.same i t differ)) (holds i c t lt))
    ]

  pub found-more : (es : List Entry) (n : ℕ) (e : Entry) → n < length es → e ≡ get_or es n e → (found : ℕ) → StandsAt cs (key e.point.at) found → AllFound key cs (take n es) → AllFound key cs (take (n + 1) es)
  found-more es n e low is found stands all k d lt = elim (cases_lt k n) [
    | inl under ↦
        let long = length-take (n + 1) es in
        let long_too = length-take n es in
        let same : get_or (take n es) k d ≡ get_or (take (n + 1) es) k d = get_or-take n es k d under ∙ sym (get_or-take (n + 1) es k d (omega (arith, under))) in
        subst (λ (x : Entry). IsFound cs (key x.point.at)) same (all k d (omega (arith, under, low, long_too)))
    | inr not ↦
        let here : n ≡ k = omega (arith, not, lt, length-take (n + 1) es) in
        let same : e ≡ get_or (take (n + 1) es) k d = is ∙ (get_or_default es n e d low ∙ (sym (get_or-take (n + 1) es n d (omega arith)) ∙ ap (λ (i : ℕ). get_or (take (n + 1) es) i d) here)) in
        subst (λ (x : Entry). IsFound cs (key x.point.at)) same (record { index = found; stands = stands })
  ]

  -- ---- where the counts pass 64 bits

  abbrev count_of : Option Cell → ℕ
  count_of None = 0
  count_of (Some c) = c.count

  plus-count : (o p : Option Cell) → count_of (plus o p) ≡ count_of o + count_of p
  plus-count None p = omega arith
  plus-count (Some c) None = omega arith
  plus-count (Some c) (Some d) = omega arith

  holds-count : (o : Option Cell) (t : Total) → HoldsSum measures o t → t.count ≡ count_of o
  holds-count None t h = h
  holds-count (Some c) t h = h.count

  pub over-not : (es : List Entry) (n : ℕ) (e : Entry) → n < length es → e ≡ get_or es n e → (totals : List Total) → (order : ascend entry_before cs ≡ true) → HoldsAll key measures cs (take n es) totals
      → IsOver cs (key e.point.at) e.cell totals → ((i : ℕ) (c : Entry) → i < length cs → (get_or cs i c).cell.count < 2 ^ 64) → Rolled key es cs (ascends-from cs order) → ⊥
  over-not es n e low at totals order holds over few rolled =
      let i = over.index in
      let inside = over.stands.inside in
      let t : Total = record { count = 0; parts = [] } in
      let place = (get_or cs i e).point.at in
      let front = take n es in
      let back = drop (n + 1) es in
      let test : is point_cmp place (key e.point.at) ≡ true = ap (λ (p : List ℕ). is point_cmp p (key e.point.at)) (over.stands.there e) ∙ itself (key e.point.at) in
      let more : front ++ e ∷ [] ≡ take (n + 1) es = ap (λ (x : Entry). front ++ x ∷ []) at ∙ sym (take_more es n e low) in
      let split : (front ++ e ∷ []) ++ back ≡ es = ap (λ (l : List Entry). l ++ back) more ∙ take-append-drop (n + 1) es in
      let all : held key place (map pair_of es) ≡ plus (held key place (map pair_of (front ++ e ∷ []))) (held key place (map pair_of back))
      = ap (λ (l : List Entry). held key place (map pair_of l)) (sym split) ∙ (ap (held key place) (map-append pair_of (front ++ e ∷ []) back) ∙ held-append key place (map pair_of (front ++ e ∷ [])) (map pair_of back)) in
      let some : held key place (map pair_of (front ++ e ∷ [])) ≡ plus (held key place (map pair_of front)) (Some e.cell)
      = more-held front e place ∙ ap (λ (b : Bool). plus (held key place (map pair_of front)) (cond b (Some e.cell) None)) test in
      omega (
        arith,
        ap count_of all,
        plus-count (held key place (map pair_of (front ++ e ∷ []))) (held key place (map pair_of back)),
        ap count_of some,
        plus-count (held key place (map pair_of front)) (Some e.cell),
        holds-count (held key place (map pair_of front)) (get_or totals i t) (holds i e t inside),
        over.over t,
        ap count_of (rolled-there key es cs (ascends-from cs order) rolled i e inside),
        few i e inside,
      )
