use Rattle.std.proofs.Common.{rules, ◌≡◌, ◌+ℤ◌, to_z, of_z, sym, ◌∙◌, ap, to_z-of_z}
use Rattle.std.proofs.Math.IntN.{+ℤ_idr}
use Rattle.std.specs.Int.{w128, int_min, int_max}
use Rattle.delta_agg.proofs.cells.joined.Goals as goal

pub returns : goal.returns
returns c =
    let p = c.args.part.now in
    let z = c.args.number in
    let a : to_z w128 (of_z w128 p.sum) ≡ p.sum = search rules in
    let b : to_z w128 (of_z w128 z) ≡ z = search rules in
    let s = (λ i. to_z w128 (of_z w128 (a i +ℤ b i))) ∙ (to_z-of_z c.requires ∙ ap (λ y. p.sum +ℤ y) (sym (+ℤ_idr z))) in
    let l1 : to_z w128 (of_z w128 p.low) ≡ p.low = search rules in
    let m : to_z w128 (of_z w128 c.min.result) ≡ c.min.result = search rules in
    let l = m ∙ (c.min.ensures.value ∙ (λ i. int_min (l1 i) (b i))) in
    let h1 : to_z w128 (of_z w128 p.high) ≡ p.high = search rules in
    let n : to_z w128 (of_z w128 c.max.result) ≡ c.max.result = search rules in
    let h = n ∙ (c.max.ensures.value ∙ (λ i. int_max (h1 i) (b i))) in
    (λ i. record { sum = s i; low = l i; high = h i })
