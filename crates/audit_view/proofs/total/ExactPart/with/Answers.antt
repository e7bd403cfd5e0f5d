use Rattle.std.proofs.Common.{◌≡◌, ◌+ℤ◌, ◌∙◌, ℤ, ap, arith, refl, of_z, to_z}
use Rattle.std.specs.Int.{w128}
use Rattle.std.proofs.lemmas.Int.{clamps, ints}
use Rattle.audit_view.specs.Totals.{exact_sum}
use Rattle.audit_view.proofs.Exact.{with-joined}
use Rattle.audit_view.proofs.total.ExactPart.with.Goals as goal

pub returns-clause-joined : goal.returns-clause-joined
returns-clause-joined c =
    let own : to_z w128 (of_z w128 c.args.other.now.sum) ≡ c.args.other.now.sum = omega (arith, ints) in
    let sum : exact_sum c.with_sum-sum.result ≡ exact_sum c.args.self +ℤ c.args.other.now.sum = c.with_sum-sum.ensures.sum ∙ ap (λ (z : ℤ). exact_sum c.args.self +ℤ z) own in
    with-joined c.args.self c.with_sum-sum.result _ c.args.other.now sum (omega (arith, ints)) refl refl (omega (arith, ints, clamps)) (omega (arith, ints, clamps))
