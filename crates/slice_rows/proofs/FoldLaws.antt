-- Entries joined as they come have the groups of the entries, by every key that the place tells.
use Rattle.std.proofs.Common.{◌≡◌, Bool, true, false, cond, List, [], ◌∷◌, Option, Some, None, refl, sym, ◌∙◌, ap, inl, inr}
use Rattle.std.proofs.lemmas.Bool.{cases_Bool}
use Rattle.std.specs.declared.cmp.Ordering.{Ordering}
use Rattle.std.specs.Cmp.{IsTotalOrder}
use Rattle.std.specs.FinMap.{IsAntisymmetric}
use Rattle.fact_model.specs.declared.cell.Cell.{Cell}
use Rattle.fact_model.specs.Cell.{join}
use Rattle.fact_model.specs.Groups.{is}
use Rattle.spec_points.proofs.Cells.{join-comm, join-assoc}
use Rattle.row_fold.proofs.Grouping.{plus, at, grouped}
use Rattle.row_fold.proofs.Groups.{plus-none, plus-assoc, same-entries, sum-entries}
use Rattle.row_fold.proofs.Regroup.{grouped-ascends, at-grouped}
use Rattle.point_groups.specs.Folded.{taken, folded}

-- the cell of an entry, where its place passes the test
abbrev pub one_if : Bool → Cell → Option Cell
one_if b c = cond b (Some c) None

-- a b + c = (a + b) + c, where the first two stand for one place
joined-in : (b : Bool) (c d : Cell) (rest : Option Cell) → plus join (one_if b (join c d)) rest ≡ plus join (plus join (one_if b c) rest) (one_if b d)
joined-in true c d None = refl
joined-in true c d (Some a) = ap Some (join-assoc c d a ∙ (ap (join c) (join-comm d a) ∙ sym (join-assoc c a d)))
joined-in false c d rest = sym (plus-none join join-comm join-assoc rest)

module _ {K : Type 0} (same : K → K → Bool) (Q : K → Bool) (told : (j k : K) → same j k ≡ true → Q j ≡ Q k) where
  -- what the entries say at a test of places, after one more
  pub at-taken : (gs : List (K × Cell)) (e : K × Cell) → at join Q (taken same gs e) ≡ plus join (at join Q gs) (one_if (Q e.0) e.1)
  at-taken [] e = plus-none join join-comm join-assoc (one_if (Q e.0) e.1)
  at-taken (g ∷ gs) e = elim (cases_Bool (same g.0 e.0)) [
    | inl here ↦ ap (λ (b : Bool). at join Q (cond b ((g.0, join g.1 e.1) ∷ gs) (g ∷ taken same gs e))) here
        ∙ (joined-in (Q g.0) g.1 e.1 (at join Q gs)
        ∙ ap (λ (b : Bool). plus join (plus join (one_if (Q g.0) g.1) (at join Q gs)) (one_if b e.1)) (told g.0 e.0 here))
    | inr other ↦ ap (λ (b : Bool). at join Q (cond b ((g.0, join g.1 e.1) ∷ gs) (g ∷ taken same gs e))) other
        ∙ (ap (plus join (one_if (Q g.0) g.1)) (at-taken gs e)
        ∙ sym (plus-assoc join join-comm join-assoc (one_if (Q g.0) g.1) (at join Q gs) (one_if (Q e.0) e.1)))
  ]

  pub at-folded : (gs es : List (K × Cell)) → at join Q (folded same gs es) ≡ plus join (at join Q gs) (at join Q es)
  at-folded gs [] = sym (plus-none join join-comm join-assoc (at join Q gs))
  at-folded gs (e ∷ es) = at-folded (taken same gs e) es
      ∙ (ap (λ a. plus join a (at join Q es)) (at-taken gs e)
      ∙ plus-assoc join join-comm join-assoc (at join Q gs) (one_if (Q e.0) e.1) (at join Q es))

-- the groups by a key that the place tells
module _ {K J : Type 0} (same : K → K → Bool) (S : J → J → Ordering) (os : IsTotalOrder S) (only : IsAntisymmetric S)
    (key : K → J) (told : (j k : K) → same j k ≡ true → key j ≡ key k) where
  pub folded-groups : (es : List (K × Cell)) → grouped S join (λ (e : K × Cell). key e.0) (λ e. e.1) (folded same [] es) ≡ grouped S join (λ (e : K × Cell). key e.0) (λ e. e.1) es
  folded-groups es = same-entries S os only join join-comm join-assoc _ _
      (grouped-ascends S os only join join-comm join-assoc (λ (e : K × Cell). key e.0) (λ e. e.1) (folded same [] es))
      (grouped-ascends S os only join join-comm join-assoc (λ (e : K × Cell). key e.0) (λ e. e.1) es)
      (λ j.
      let Q : K → Bool = λ k. is S j (key k) in
      at-grouped S os only join join-comm join-assoc (λ (e : K × Cell). key e.0) (λ e. e.1) (is S j) (folded same [] es)
      ∙ (sum-entries join join-comm join-assoc Q (folded same [] es)
      ∙ (at-folded same Q (λ i k h. ap (is S j) (told i k h)) [] es
      ∙ (sym (sum-entries join join-comm join-assoc Q es)
      ∙ sym (at-grouped S os only join join-comm join-assoc (λ (e : K × Cell). key e.0) (λ e. e.1) (is S j) es)))))
