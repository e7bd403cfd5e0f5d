use Rattle.std.proofs.Common.{◌+ℤ◌, ◌<◌, ℕ, FitsSigned, inl, inr, drop, get_or, length, sym, ap, subst, ◌∙◌, arith}
use Rattle.std.specs.Prelude.{slice_set}
use Rattle.std.specs.Int.{w128}
use Rattle.std.proofs.lemmas.Bool.{cases_eq}
use Rattle.std.proofs.lemmas.List.{get_or-set_same, get_or-set_other, length-set}
use Rattle.fact_model.specs.declared.cell.Part.{Part}
use Rattle.fact_model.specs.Cell.{PartFits, join_parts}
use Rattle.page_entry.specs.Entries.{no_part}
use Rattle.page_entry.proofs.CellParts.{part-read, parts}
use Rattle.page_entry.proofs.cell.join_each.Goals as goal

pub joined-requires : goal.joined-requires
joined-requires c =
    let m = c.loop-measure.measure in
    let is = c.part_at-part.ensures ∙ part-read c.args.measures m c.args.at c.args.bytes.now c.loop-measure-test.true in
    subst (λ (p : Part). FitsSigned w128 (p.sum +ℤ c.part_at-part.result.sum)) (sym (c.loop-measure.invariant.rest m (omega arith)))
    (subst (PartFits (get_or c.args.parts.now m no_part)) (sym is) (c.requires.fit m c.loop-measure-test.true))

pub loop-measure-preserved : goal.loop-measure-preserved
loop-measure-preserved c =
    let m = c.loop-measure.measure in
    let ps = c.loop-measure.parts in
    let four = c.loop-measure.invariant.four in
    let within : m < length ps = omega (arith, four, c.loop-measure-test.true, c.requires.measures) in
    let read = c.part_at-part.ensures ∙ part-read c.args.measures m c.args.at c.args.bytes.now c.loop-measure-test.true in
    let is = c.joined.ensures ∙ (λ i. join_parts (c.loop-measure.invariant.rest m (omega arith) i) (read i)) in
    record {
      four = length-set ps m c.joined.result ∙ four;
      passed = λ k lt. elim (cases_eq k m) [
        | inl here ↦ ap (λ (j : ℕ). get_or (slice_set ps m c.joined.result) j no_part) here ∙ (get_or-set_same ps m c.joined.result no_part within
            ∙ (is ∙ (λ i. join_parts (get_or c.args.parts.now (sym here i) no_part) (get_or (parts c.args.measures (drop c.args.at c.args.bytes.now)) (sym here i) no_part))))
        | inr other ↦ get_or-set_other ps m k c.joined.result no_part other ∙ c.loop-measure.invariant.passed k (omega (arith, lt, other))
      ];
      rest = λ k past. get_or-set_other ps m k c.joined.result no_part (λ here. omega (arith, past, here)) ∙ c.loop-measure.invariant.rest k (omega (arith, past));
    }
