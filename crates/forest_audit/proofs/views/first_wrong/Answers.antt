use Rattle.std.proofs.Common.{◌≡◌, ◌∙◌, inl, inr, ℕ, List, length, ap, arith, subst, sym}
use Rattle.std.proofs.lemmas.Bool.{cases_lt, true≢false}
use Rattle.forest_audit.specs.Audited.{ViewAgrees}
use Rattle.forest_audit.proofs.views.first_wrong.Goals as goal

pub returns-then-not-branch-clause-wrong : goal.returns-then-not-branch-clause-wrong
returns-then-not-branch-clause-wrong c = λ files read. (
  omega (arith, ap (λ (l : List (List ℕ)). length l) c.as_slice-view-end.ensures),
  (λ v low. c.loop-view.invariant files read v low),
  λ agrees. true≢false (sym ((c.in_ok-does_agree.ensures files read).1 agrees) ∙ c.if-not-branch.true),
)

pub loop-view-preserved : goal.loop-view-preserved
loop-view-preserved c = λ files read v lt.
    let forest = c.args.store.now.forest in
    elim (cases_lt v c.loop-view.view) [
      | inl under ↦ c.loop-view.invariant files read v under
      | inr not ↦
          let here : c.loop-view.view ≡ v = omega (arith, lt, not) in
          subst (ViewAgrees files forest.body forest.schema c.args.store.now.dicts) here ((c.in_ok-does_agree.ensures files read).0 c.if-not-branch.false)
    ]

pub returns-clause-wrong : goal.returns-clause-wrong
returns-clause-wrong c = λ files read v lt. c.loop-view.invariant files read v (omega (arith, lt, ap (λ (l : List (List ℕ)). length l) c.as_slice-view-end.ensures))

pub returns-then-not-branch-clause-inside : goal.returns-then-not-branch-clause-inside
returns-then-not-branch-clause-inside c = omega (arith, ap (λ (l : List (List ℕ)). length l) c.as_slice-view-end.ensures)
