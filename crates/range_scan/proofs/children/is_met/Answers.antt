use Rattle.std.proofs.Common.{◌<◌, ◌-◌, ◌⊎◌, inl, inr, drop, sym, arith}
use Rattle.std.specs.Prelude.{slice_index}
use Rattle.page_fmt.specs.Taking.{child_of}
use Rattle.range_scan.proofs.Meetings.{apart, meets-used}
use Rattle.range_scan.proofs.children.is_met.Goals.{then-region-dimension-via-then-region-dimension, then-region-dimension-via-else-region-dimension+then-high-region}
use Rattle.range_scan.proofs.children.is_met.Goals as goal

pub returns-then-region-dimension : goal.returns-then-region-dimension
returns-then-region-dimension c =
    let b = (child_of c.args.shape.now (drop c.args.at c.args.page.now)).bounds in
    let bounds = c.args.region.now.bounds in
    let d = c.args.shape.now.dims - 1 - c.loop-skipped.skipped in
    let eight : d < 8 = omega (arith, c.requires.dims, c.loop-skipped-test.true) in
    let out : (slice_index bounds.high d < slice_index b.low d) ⊎ (slice_index b.high d < slice_index bounds.low d) = elim c.then-region-dimension.branch [
      | then-region-dimension-via-then-region-dimension w ↦ inl (omega (arith, w.if-region-dimension.true, c.ends_at-low.ensures.low))
      | then-region-dimension-via-else-region-dimension+then-high-region w ↦ inr (omega (arith, w.if-high-region.true, c.ends_at-low.ensures.high))
    ] in
    sym (apart c.args.region.now b d eight out)

pub returns : goal.returns
returns c =
    let b = (child_of c.args.shape.now (drop c.args.at c.args.page.now)).bounds in
    sym (meets-used c.args.shape.now c.args.region.now b c.requires.ends c.requires.some (λ i lt. c.loop-skipped.invariant i (omega (arith, c.loop-skipped-test.false)) lt))
