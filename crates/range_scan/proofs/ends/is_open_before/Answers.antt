use Rattle.std.proofs.Common.{ℕ, inl, inr, subst, arith}
use Rattle.std.proofs.lemmas.Bool.{cases_lt, eqb-true, eq-eqb}
use Rattle.range_scan.specs.Ends.{IsOpenBefore}
use Rattle.range_scan.proofs.ends.is_open_before.Goals as goal

pub returns : goal.returns
returns c =
    let bound = c.first_bound.result in (
      λ yes. subst (λ (n : ℕ). IsOpenBefore c.args.wide n c.args.region.now) (eqb-true bound c.args.dimension yes) c.first_bound.ensures.before,
      λ told. elim (cases_lt bound c.args.dimension) [
        | inl less ↦ absurd (c.first_bound.ensures.bound less (λ i below. told i (omega (arith, below, less))))
        | inr past ↦ eq-eqb bound c.args.dimension (omega (arith, past, c.first_bound.ensures.few))
      ],
    )
