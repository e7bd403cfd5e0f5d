use Rattle.std.proofs.Common.{rules, ◌≡◌, ◌+◌, ◌+ℤ◌, ◌<◌, max, ◌≢◌, ℕ, ℤ, List, [], ◌∷◌, get_or, length, set, to_z, of_z, sym, ◌∙◌, ap, subst, inl, inr, arith}
use Rattle.std.specs.Prelude.{FitsSigned, pos}
use Rattle.std.specs.Int.{w128}
use Rattle.std.proofs.lemmas.Bool.{cases_eq}
use Rattle.std.proofs.lemmas.List.{get_or-set_same, get_or-set_other, length-set}
use Rattle.fact_model.specs.declared.cell.Part.{Part}
use Rattle.fact_model.specs.Cell.{join_parts, part_of}
use Rattle.delta_agg.specs.Orders.{no_part}
use Rattle.delta_agg.proofs.RowCells.{part_at, parts-more}
use Rattle.delta_agg.proofs.cells.add.Goals as goal

below : (k m : ℕ) → k < m + 1 → k ≢ m → k < m
below k m low other = grind (arith, low, other)

-- a part that is written
each-more : (parts : List Part) (of : ℕ → Part) (m : ℕ) (r : Part) → m < length parts → ((k : ℕ) → k < m → get_or parts k no_part ≡ of k) → r ≡ of m
    → (k : ℕ) → k < m + 1 → get_or (set parts m r) k no_part ≡ of k
each-more parts of m r low each here k inside = elim (cases_eq k m) [
  | inl is ↦ ap (λ n. get_or (set parts m r) n no_part) is ∙ (get_or-set_same parts m r no_part low ∙ (here ∙ ap of (sym is)))
  | inr other ↦ get_or-set_other parts m k r no_part other ∙ each k (below k m inside other)
]

pub joined-requires : goal.joined-requires
joined-requires c =
    let m = c.loop-m.m in
    let z : ℤ = get_or c.args.numbers.now m (pos 0) in
    let is : to_z w128 (of_z w128 z) ≡ z = search rules in
    let low : m < 4 = omega (arith, c.loop-m-test.true, c.requires.four) in
    let part : get_or c.loop-m.cell.parts m no_part ≡ get_or c.args.cell.now.parts m no_part = c.loop-m.invariant.rest m (omega arith) low in
    subst (λ y. FitsSigned w128 ((get_or c.loop-m.cell.parts m no_part).sum +ℤ y)) (sym is)
    (subst (λ (p : Part). FitsSigned w128 (p.sum +ℤ z)) (sym part) (c.requires.parts m c.loop-m-test.true))

pub loop-m-preserved : goal.loop-m-preserved
loop-m-preserved c =
    let so_far = c.loop-m.invariant in
    let m = c.loop-m.m in
    let z : ℤ = get_or c.args.numbers.now m (pos 0) in
    let is : to_z w128 (of_z w128 z) ≡ z = search rules in
    let low : m < 4 = omega (arith, c.loop-m-test.true, c.requires.four) in
    let of : ℕ → Part = λ k. join_parts (get_or c.args.cell.now.parts k no_part) (part_at c.args.numbers.now k) in
    let here : c.joined.result ≡ of m = c.joined.ensures ∙ (λ i. join_parts (so_far.rest m (omega arith) low i) (part_of (is i ∷ []))) in
    record {
      count = so_far.count;
      measures = so_far.measures;
      long = length-set c.loop-m.cell.parts m c.joined.result ∙ so_far.long;
      each = each-more c.loop-m.cell.parts of m c.joined.result (omega (arith, low, so_far.long)) so_far.each here;
      rest = λ k past inside. get_or-set_other c.loop-m.cell.parts m k c.joined.result no_part (λ e. omega (arith, past, e)) ∙ so_far.rest k (omega (arith, past)) inside;
    }

pub returns : goal.returns
returns c =
    let so_far = c.loop-m.invariant in
    let past = c.loop-m-test.false in
    let parts = parts-more c.args.numbers.now c.args.cell.now.parts c.loop-m.cell.parts c.requires.long so_far.long
    (λ k low. so_far.each k (omega (arith, low, past)))
    (λ k behind low. so_far.rest k (omega (arith, behind, c.loop-m.auto.m-end)) low) c.requires.none in
    let one : c.args.cell.now.measures ≡ max c.args.cell.now.measures c.args.cell.now.measures = omega arith in
    λ i. record { count = so_far.count i; measures = (so_far.measures ∙ one) i; parts = parts i }
