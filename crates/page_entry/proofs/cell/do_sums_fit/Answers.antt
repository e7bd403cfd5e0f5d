use Rattle.std.proofs.Common.{rules, ◌≡◌, ◌+ℤ◌, IsTrue, FitsSigned, inl, inr, drop, get_or, refl, sym, ap, ◌∙◌, subst, arith, to_z, of_z, true≢false}
use Rattle.std.specs.Int.{w128}
use Rattle.std.proofs.lemmas.Bool.{cases_lt}
use Rattle.std.proofs.lemmas.Int.{to_z-of_z}
use Rattle.fact_model.specs.declared.cell.Part.{Part}
use Rattle.fact_model.specs.Cell.{SumFitsAt}
use Rattle.page_entry.specs.Cells.{cell_of}
use Rattle.page_entry.specs.Entries.{no_part}
use Rattle.page_entry.proofs.CellParts.{part-read}
use Rattle.page_entry.proofs.cell.do_sums_fit.Goals as goal

pub returns-then-not-adds : goal.returns-then-not-adds
returns-then-not-adds c = (
  λ no. absurd (true≢false (sym no)),
  λ all.
      let m = c.loop-measure.measure in
      let x = (get_or c.args.cell.now.parts m no_part).sum in
      let a : to_z w128 (of_z w128 x) ≡ x = search rules in
      let b = to_z-of_z w128 c.take_i128-sum.result (record { sfits = c.take_i128-sum.type_inv }) in
      let y = b ∙ (c.take_i128-sum.ensures ∙ ap (λ (p : Part). p.sum) (part-read c.args.cell.now.measures m c.args.at c.args.bytes.now c.loop-measure-test.true)) in
      subst IsTrue c.if-not-adds.true (c.adds.ensures.1 (subst (FitsSigned w128) (sym (λ j. a j +ℤ y j)) (all m c.loop-measure-test.true))),
)

pub loop-measure-preserved : goal.loop-measure-preserved
loop-measure-preserved c = λ m lt.
    let own = c.loop-measure.measure in
    let x = (get_or c.args.cell.now.parts own no_part).sum in
    let a : to_z w128 (of_z w128 x) ≡ x = search rules in
    let b = to_z-of_z w128 c.take_i128-sum.result (record { sfits = c.take_i128-sum.type_inv }) in
    let y = b ∙ (c.take_i128-sum.ensures ∙ ap (λ (p : Part). p.sum) (part-read c.args.cell.now.measures own c.args.at c.args.bytes.now c.loop-measure-test.true)) in
    elim (cases_lt m own) [
      | inl before ↦ c.loop-measure.invariant m before
      | inr here ↦
          let is : own ≡ m = omega (arith, lt, here) in
          subst (SumFitsAt c.args.cell.now (cell_of c.args.cell.now.measures (drop c.args.at c.args.bytes.now))) is
          (subst (FitsSigned w128) (λ j. a j +ℤ y j) (c.adds.ensures.0 (subst IsTrue (sym c.if-not-adds.false) refl)))
    ]
