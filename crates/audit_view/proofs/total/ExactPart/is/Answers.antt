use Rattle.std.proofs.Common.{rules, SFits, ap, arith, of_z, refl, sym}
use Rattle.std.specs.Int.{w128}
use Rattle.std.proofs.lemmas.Bool.{true≢false}
use Rattle.std.proofs.lemmas.Int.{ints}
use Rattle.audit_view.proofs.Exact.{told-from, told-is}
use Rattle.audit_view.proofs.total.ExactPart.is.Goals as goal

pub returns-then-self : goal.returns-then-self
returns-then-self c = (
  (λ is. absurd (true≢false (sym is))),
  λ same.
      let low : SFits w128 c.args.self.low = search rules in
      let fits : SFits w128 c.args.part.sum = search rules in
      let told = told-from c.args.self c.args.part low fits same in
      absurd (omega (arith, told.ups)),
)

pub returns-then-self-part : goal.returns-then-self-part
returns-then-self-part c = (
  (λ is. absurd (true≢false (sym is))),
  λ same.
      let low : SFits w128 c.args.self.low = search rules in
      let fits : SFits w128 c.args.part.sum = search rules in
      let told = told-from c.args.self c.args.part low fits same in
      absurd (omega (arith, ap (of_z w128) told.low)),
)

pub returns : goal.returns
returns c = ((λ _. told-is c.args.self c.args.part (record { ups = omega arith; low = omega (arith, ints); least = omega (arith, ints); greatest = omega (arith, ints) })), λ _. refl)
