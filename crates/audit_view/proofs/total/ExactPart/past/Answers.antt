use Rattle.std.proofs.Common.{◌≡◌, ◌+◌, ◌+ℤ◌, ◌^◌, ◌∙◌, pos, arith, refl}
use Rattle.std.proofs.lemmas.Int.{ints}
use Rattle.audit_view.specs.declared.total.ExactPart.{ExactPart}
use Rattle.audit_view.proofs.Exact.{down-exact, same-exact, up-exact}
use Rattle.audit_view.proofs.total.ExactPart.past.Goals as goal

pub returns-then-sum-gt0-clause-sum : goal.returns-then-sum-gt0-clause-sum
returns-then-sum-gt0-clause-sum c =
    let p = c.args.self in
    let w : ExactPart = record { low = c.lowered-low.result; ups = p.ups + 1; downs = p.downs; least = p.least; greatest = p.greatest } in
    let low : w.low +ℤ pos (2 ^ 128) ≡ p.low +ℤ c.args.sum = omega (arith, ints, c.lowered-low.ensures) in
    same-exact w _ (omega (arith, ints)) refl refl ∙ up-exact p w c.args.sum low refl refl

pub returns-else-sum-gt0-clause-sum : goal.returns-else-sum-gt0-clause-sum
returns-else-sum-gt0-clause-sum c =
    let p = c.args.self in
    let w : ExactPart = record { low = c.raised-low.result; ups = p.ups; downs = p.downs + 1; least = p.least; greatest = p.greatest } in
    let low : w.low ≡ (p.low +ℤ c.args.sum) +ℤ pos (2 ^ 128) = omega (arith, ints, c.raised-low.ensures) in
    same-exact w _ (omega (arith, ints)) refl refl ∙ down-exact p w c.args.sum low refl refl
