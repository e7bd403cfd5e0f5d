use Rattle.std.proofs.Common.{◌≡◌, ◌≤◌, inl, inr, ℕ, subst, arith}
use Rattle.std.specs.Prelude.{slice_index}
use Rattle.std.proofs.lemmas.Bool.{cases_lt}
use Rattle.page_entry.specs.Stored.{IsCoordinate}
use Rattle.range_scan.proofs.ends.first_bound.Goals.{then-region-i-gt1-via-then-region-i-gt1, then-region-i-gt1-via-else-region-i-gt1+then-region-i}
use Rattle.range_scan.proofs.ends.first_bound.Goals as goal

pub returns-then-region-i-gt1-clause-bound : goal.returns-then-region-i-gt1-clause-bound
returns-then-region-i-gt1-clause-bound c = λ few. λ open_before.
    let here = open_before c.loop-i.i (omega arith) in
    elim c.then-region-i-gt1.branch [
      | then-region-i-gt1-via-then-region-i-gt1 w ↦ absurd (omega (arith, here.0, w.if-region-i-gt1.true))
      | then-region-i-gt1-via-else-region-i-gt1+then-region-i w ↦
          absurd (omega (arith, here.1 c.greatest_coordinate-most.result c.greatest_coordinate-most.ensures.fits, w.if-region-i.true))
    ]

pub loop-i-preserved : goal.loop-i-preserved
loop-i-preserved c = λ i below. elim (cases_lt i c.loop-i.i) [
  | inl before ↦ c.loop-i.invariant i before
  | inr past ↦
      let is : c.loop-i.i ≡ i = omega (arith, below, past) in
      let bounds = c.args.region.now.bounds in
      subst (λ j. (slice_index bounds.low j ≤ 1) × ((n : ℕ) → IsCoordinate c.args.wide n → n ≤ slice_index bounds.high j)) is
      (c.if-region-i-gt1.false, λ n fits. omega (arith, c.greatest_coordinate-most.ensures.most n fits, c.if-region-i.false))
]

pub returns-clause-before : goal.returns-clause-before
returns-clause-before c = λ i below. c.loop-i.invariant i (omega (arith, below, c.loop-i-test.false))
