use Rattle.std.proofs.Common.{◌≡◌, ◌<◌, ◌∙◌, inl, inr, ℕ, Some, get_or, length, refl, ap, sym, arith, subst}
use Rattle.std.proofs.lemmas.Bool.{cases_lt, true≢false}
use Rattle.std.proofs.lemmas.List.{get_or_default}
use Rattle.cube_point.specs.declared.point.Entry.{Entry}
use Rattle.fact_model.specs.declared.cell.Cell.{Cell}
use Rattle.audit_points.specs.Kept.{points_of}
use Rattle.audit_view.specs.Totals.{HoldsSum}
use Rattle.audit_view.proofs.Exact.{cell-is, is-cell}
use Rattle.audit_view.proofs.Steps.{some-facts}
use Rattle.audit_view.proofs.rolling.are_all.Goals as goal

pub loop-index-preserved : goal.loop-index-preserved
loop-index-preserved c = λ sums read holds i e lt.
    let es = points_of c.args.coarse.now in
    let n = c.loop-index.index in
    let x = c.point.result in
    let t = c.index.result.now in
    let low : n < length es = omega arith in
    let cell : c.cell.result ≡ (get_or es n e).cell = c.cell.ensures.value ∙ ap (λ (y : Entry). y.cell) (c.point.ensures.point ∙ get_or_default es n x e low) in
    let some : 0 < c.cell.result.count = omega (arith, ap (λ (y : Cell). y.count) cell, some-facts c.args.coarse.now.shape es n e low read.good) in
    let measured : c.cell.result.measures ≡ c.args.coarse.now.shape.measures = ap (λ (y : Cell). y.measures) c.cell.ensures.value ∙ c.point.ensures.measures in
    let own = subst (HoldsSum c.args.coarse.now.shape.measures (sums n)) (sym c.index.ensures) (holds n t low) in
    elim (cases_lt i n) [
      | inl under ↦ c.loop-index.invariant sums read holds i e under
      | inr not ↦
          let here : n ≡ i = omega (arith, lt, not) in
          let is = cell-is c.args.coarse.now.shape.measures c.cell.result t some measured c.is.ensures.four (sums n) own (c.is.ensures.is.0 c.if-not-is.false) in
          subst (λ (k : ℕ). sums k ≡ Some (get_or es k e).cell) here (is ∙ ap Some cell)
    ]

pub returns-then-not-is : goal.returns-then-not-is
returns-then-not-is c = λ sums read holds. (
  (λ is. absurd (true≢false (sym is))),
  λ all.
      let es = points_of c.args.coarse.now in
      let n = c.loop-index.index in
      let x = c.point.result in
      let t = c.index.result.now in
      let low : n < length es = omega arith in
      let cell : c.cell.result ≡ (get_or es n x).cell = c.cell.ensures.value ∙ ap (λ (y : Entry). y.cell) c.point.ensures.point in
      let some : 0 < c.cell.result.count = omega (arith, ap (λ (y : Cell). y.count) cell, some-facts c.args.coarse.now.shape es n x low read.good) in
      let measured : c.cell.result.measures ≡ c.args.coarse.now.shape.measures = ap (λ (y : Cell). y.measures) c.cell.ensures.value ∙ c.point.ensures.measures in
      let own = subst (HoldsSum c.args.coarse.now.shape.measures (sums n)) (sym c.index.ensures) (holds n t low) in
      let is = is-cell c.args.coarse.now.shape.measures c.cell.result t some measured c.is.ensures.four (sums n) own (all n x low ∙ ap Some (sym cell)) in
      absurd (true≢false (sym (c.is.ensures.is.1 is) ∙ c.if-not-is.true)),
)

pub returns : goal.returns
returns c = λ sums read holds. ((λ _ i e lt. c.loop-index.invariant sums read holds i e (omega (arith, lt))), λ _. refl)
