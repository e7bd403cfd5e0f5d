use Rattle.std.proofs.Common.{rules, ◌≡◌, ◌<◌, ◌+◌, ◌+ℤ◌, ◌*◌, ◌^◌, ℕ, IsTrue, FitsSigned, List, drop, length, get_or, refl, sym, ap, subst, ◌∙◌, arith, to_z, of_z, true≢false}
use Rattle.std.specs.Prelude.{slice_set}
use Rattle.std.specs.Int.{w128}
use Rattle.std.proofs.lemmas.List.{get_or-set_same, get_or-set_other, length-set}
use Rattle.fact_model.specs.declared.cell.Part.{Part}
use Rattle.fact_model.specs.Cell.{SumFitsAt, join_parts}
use Rattle.page_entry.specs.Cells.{cell_of}
use Rattle.page_entry.specs.Entries.{no_part, part_of}
use Rattle.page_entry.proofs.CellParts.{every-sum, part-read, parts, whole-join}
use Rattle.page_entry.proofs.cell.join_single.Goals as goal

-- the one part of a cell of one measure
first-read : (measures at : ℕ) (b : List ℕ) → measures ≡ 1 → part_of (drop (at + 8) b) ≡ get_or (parts measures (drop at b)) 0 no_part
first-read measures at b one = let here : at + 8 ≡ at + 8 + 0 * 48 = omega arith in ap (λ (k : ℕ). part_of (drop k b)) here ∙ part-read measures 0 at b (omega (arith, one))

pub returns-then-not-adds-clause-fits : goal.returns-then-not-adds-clause-fits
returns-then-not-adds-clause-fits c = (
  λ no. absurd (true≢false (sym no)),
  λ fit.
      let x = (get_or c.args.cell.now.parts 0 no_part).sum in
      let a : to_z w128 (of_z w128 x) ≡ x = search rules in
      let own : to_z w128 (of_z w128 c.part_at-part.result.sum) ≡ c.part_at-part.result.sum = search rules in
      let y = own ∙ ap (λ (p : Part). p.sum) (c.part_at-part.ensures ∙ first-read c.args.cell.now.measures c.args.at c.args.bytes.now c.requires.measures) in
      subst IsTrue c.if-not-adds.true (c.adds.ensures.1 (subst (FitsSigned w128) (sym (λ j. a j +ℤ y j)) fit.first)),
)

pub returns-clause-fits : goal.returns-clause-fits
returns-clause-fits c =
    let cell = c.args.cell.now in
    let b = drop c.args.at c.args.bytes.now in
    let counted : cell.count + (cell_of cell.measures b).count < 2 ^ 64 = search rules in
    let x = (get_or cell.parts 0 no_part).sum in
    let a : to_z w128 (of_z w128 x) ≡ x = search rules in
    let own : to_z w128 (of_z w128 c.part_at-part.result.sum) ≡ c.part_at-part.result.sum = search rules in
    let y = own ∙ ap (λ (p : Part). p.sum) (c.part_at-part.ensures ∙ first-read c.args.cell.now.measures c.args.at c.args.bytes.now c.requires.measures) in
    let first : SumFitsAt cell (cell_of cell.measures b) 0 = subst (FitsSigned w128) (λ j. a j +ℤ y j) (c.adds.ensures.0 (subst IsTrue (sym c.if-not-adds.false) refl)) in
    let each = every-sum cell b c.are_sums.ensures (λ m lt. let none : 0 ≡ m = omega (arith, lt, c.requires.measures) in subst (SumFitsAt cell (cell_of cell.measures b)) none first) in (
      λ all. record { count = counted; first = first; second = each 1 (search rules); third = each 2 (search rules); fourth = each 3 (search rules) },
      λ fit. refl,
    )

pub returns-clause-joined : goal.returns-clause-joined
returns-clause-joined c = λ is.
    let cell = c.args.cell.now in
    let b = drop c.args.at c.args.bytes.now in
    let four : length cell.parts ≡ 4 = search rules in
    let first : get_or (slice_set cell.parts 0 c.joined.result) 0 no_part ≡ join_parts (get_or cell.parts 0 no_part) (get_or (parts cell.measures b) 0 no_part)
    = get_or-set_same cell.parts 0 c.joined.result no_part (omega (arith, four))
    ∙ (c.joined.ensures ∙ ap (join_parts (get_or cell.parts 0 no_part)) (c.part_at-part.ensures ∙ first-read c.args.cell.now.measures c.args.at c.args.bytes.now c.requires.measures)) in
    record {
      count = search rules;
      measures = refl;
      parts = λ m lt.
          let none : 0 ≡ m = omega (arith, lt, c.requires.measures) in
          subst (λ (k : ℕ). get_or (slice_set cell.parts 0 c.joined.result) k no_part ≡ join_parts (get_or cell.parts k no_part) (get_or (parts cell.measures b) k no_part)) none first;
      past = λ m past. get_or-set_other cell.parts 0 m c.joined.result no_part (λ here. omega (arith, past, here, c.requires.measures));
    }

pub returns-clause-whole : goal.returns-clause-whole
returns-clause-whole c = λ ends is.
    let cell = c.args.cell.now in
    let four : length cell.parts ≡ 4 = search rules in
    whole-join cell _ (drop c.args.at c.args.bytes.now) (omega (arith, c.requires.measures)) four (length-set cell.parts 0 c.joined.result ∙ four) ends (returns-clause-joined c is)
