use Rattle.std.proofs.Common.{rules, ◌≡◌, ◌+ℤ◌, to_z, of_z, ◌∙◌, to_z-of_z}
use Rattle.std.specs.Int.{w128, int_min, int_max}
use Rattle.page_entry.proofs.cell.joined.Goals as goal

pub returns : goal.returns
returns c =
    let p = c.args.part.now in
    let q = c.args.other.now in
    let a : to_z w128 (of_z w128 p.sum) ≡ p.sum = search rules in
    let b : to_z w128 (of_z w128 q.sum) ≡ q.sum = search rules in
    let s = (λ i. to_z w128 (of_z w128 (a i +ℤ b i))) ∙ to_z-of_z c.requires in
    let l1 : to_z w128 (of_z w128 p.low) ≡ p.low = search rules in
    let l2 : to_z w128 (of_z w128 q.low) ≡ q.low = search rules in
    let m : to_z w128 (of_z w128 c.min.result) ≡ c.min.result = search rules in
    let l = m ∙ (c.min.ensures.value ∙ (λ i. int_min (l1 i) (l2 i))) in
    let h1 : to_z w128 (of_z w128 p.high) ≡ p.high = search rules in
    let h2 : to_z w128 (of_z w128 q.high) ≡ q.high = search rules in
    let n : to_z w128 (of_z w128 c.max.result) ≡ c.max.result = search rules in
    let h = n ∙ (c.max.ensures.value ∙ (λ i. int_max (h1 i) (h2 i))) in
    (λ i. record { sum = s i; low = l i; high = h i })
