use Rattle.std.proofs.Common.{◌≡◌, ◌∙◌, inl, inr, ℕ, List, length, ap, arith, refl, subst, sym}
use Rattle.std.proofs.lemmas.Bool.{cases_lt, true≢false}
use Rattle.audit_view.specs.Rolling.{AddUp}
use Rattle.forest_audit.specs.Agreeing.{Pairs}
use Rattle.forest_audit.proofs.views.does_agree.Goals as goal

pub returns-then-not-do_add_up : goal.returns-then-not-do_add_up
returns-then-not-do_add_up c = λ files read. (
  (λ is. absurd (true≢false (sym is))),
  λ agrees.
      let one = c.points_of.ensures.read files read in
      absurd (true≢false (sym (c.do_add_up.ensures.1 (subst (AddUp c.args.store.now.forest.body.facts) (sym one.points) agrees.adds)) ∙ c.if-not-do_add_up.true)),
)

pub returns-then-not-branch : goal.returns-then-not-branch
returns-then-not-branch c = λ files read. (
  (λ is. absurd (true≢false (sym is))),
  λ agrees. absurd (true≢false (sym ((c.in_ok-rolls_up.ensures files read).1 (agrees.rolls c.loop-other.other (omega (arith, ap (λ (l : List (List ℕ)). length l) c.as_slice-other-end.ensures)))) ∙ c.if-not-branch.true)),
)

pub loop-other-preserved : goal.loop-other-preserved
loop-other-preserved c = λ files read w lt.
    let forest = c.args.store.now.forest in
    elim (cases_lt w c.loop-other.other) [
      | inl under ↦ c.loop-other.invariant files read w under
      | inr not ↦
          let here : c.loop-other.other ≡ w = omega (arith, lt, not) in
          subst (λ (k : ℕ). Pairs files forest.body forest.schema c.args.store.now.dicts k c.args.view) here ((c.in_ok-rolls_up.ensures files read).0 c.if-not-branch.false)
    ]

pub returns : goal.returns
returns c = λ files read. (
  (λ _.
      let one = c.points_of.ensures.read files read in
      record {
        adds = subst (AddUp c.args.store.now.forest.body.facts) one.points (c.do_add_up.ensures.0 c.if-not-do_add_up.false);
        rolls = λ w lt. c.loop-other.invariant files read w (omega (arith, lt, ap (λ (l : List (List ℕ)). length l) c.as_slice-other-end.ensures));
      }),
  λ _. refl,
)
