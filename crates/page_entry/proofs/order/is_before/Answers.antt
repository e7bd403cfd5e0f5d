use Rattle.std.proofs.Common.{◌≡◌, ◌≢◌, ◌+◌, ◌-◌, ℕ, suc, drop, sym, ap, ◌∙◌, arith}
use Rattle.std.specs.Ordering.{is_lt}
use Rattle.std.specs.Prelude.{nat_lt, slice_index}
use Rattle.cube_point.proofs.PointOrder.{cmp_down}
use Rattle.page_entry.proofs.Coordinates.{below-is, coordinates, down-differ, down-same, walk}
use Rattle.page_entry.proofs.Widths.{coordinate-inside}
use Rattle.page_entry.proofs.order.is_before.Goals as goal

pub returns-then-a-b : goal.returns-then-a-b
returns-then-a-b c =
    let arity = c.args.arity in
    let left = drop c.args.left c.args.page.now in
    let right = drop c.args.right c.args.page.now in
    let i = arity - 1 - c.loop-skipped.skipped in
    let next : suc i ≡ arity - c.loop-skipped.skipped = omega (arith, c.loop-skipped-test.true) in
    let a : c.coordinate_at-a.result ≡ slice_index (coordinates c.args.wide arity left) i = c.coordinate_at-a.ensures arity (omega (arith, c.loop-skipped-test.true)) in
    let b : c.coordinate_at-b.result ≡ slice_index (coordinates c.args.wide arity right) i = c.coordinate_at-b.ensures arity (omega (arith, c.loop-skipped-test.true)) in
    let differ : slice_index (coordinates c.args.wide arity left) i ≢ slice_index (coordinates c.args.wide arity right) i = λ e. c.if-a-b.true (a ∙ (e ∙ sym b)) in
    (λ j. nat_lt (a j) (b j))
    ∙ (sym (below-is (slice_index (coordinates c.args.wide arity left) i) (slice_index (coordinates c.args.wide arity right) i))
    ∙ ap is_lt (sym (down-differ i (coordinates c.args.wide arity left) (coordinates c.args.wide arity right) differ)
    ∙ (ap (λ (k : ℕ). cmp_down k (coordinates c.args.wide arity left) (coordinates c.args.wide arity right)) next ∙ (c.loop-skipped.invariant ∙ walk c.args.wide arity left right c.requires.arity))))

pub loop-skipped-preserved : goal.loop-skipped-preserved
loop-skipped-preserved c =
    let arity = c.args.arity in
    let left = drop c.args.left c.args.page.now in
    let right = drop c.args.right c.args.page.now in
    let i = arity - 1 - c.loop-skipped.skipped in
    let here : suc i ≡ arity - c.loop-skipped.skipped = omega (arith, c.loop-skipped-test.true) in
    let below : arity - (c.loop-skipped.skipped + 1) ≡ i = omega (arith, c.loop-skipped-test.true) in
    let a : c.coordinate_at-a.result ≡ slice_index (coordinates c.args.wide arity left) i = c.coordinate_at-a.ensures arity (omega (arith, c.loop-skipped-test.true)) in
    let b : c.coordinate_at-b.result ≡ slice_index (coordinates c.args.wide arity right) i = c.coordinate_at-b.ensures arity (omega (arith, c.loop-skipped-test.true)) in
    ap (λ (k : ℕ). cmp_down k (coordinates c.args.wide arity left) (coordinates c.args.wide arity right)) below
    ∙ (sym (down-same i (coordinates c.args.wide arity left) (coordinates c.args.wide arity right) (sym a ∙ (c.if-a-b.false ∙ b)))
    ∙ (ap (λ (k : ℕ). cmp_down k (coordinates c.args.wide arity left) (coordinates c.args.wide arity right)) here ∙ c.loop-skipped.invariant))

pub returns : goal.returns
returns c =
    let left = drop c.args.left c.args.page.now in
    let right = drop c.args.right c.args.page.now in
    let none : 0 ≡ c.args.arity - c.loop-skipped.skipped = omega (arith, c.loop-skipped-test.false) in
    ap is_lt (ap (λ (k : ℕ). cmp_down k (coordinates c.args.wide c.args.arity left) (coordinates c.args.wide c.args.arity right)) none ∙ (c.loop-skipped.invariant ∙ walk c.args.wide c.args.arity left right c.requires.arity))

pub coordinate_at-a-requires : goal.coordinate_at-a-requires
coordinate_at-a-requires c =
    omega (arith, c.told-page, coordinate-inside c.args.wide (c.args.arity - 1 - c.loop-skipped.skipped) c.args.arity c.args.left 4096 (omega (arith, c.loop-skipped-test.true)) c.requires.left)

pub coordinate_at-b-requires : goal.coordinate_at-b-requires
coordinate_at-b-requires c =
    omega (arith, c.told-page, coordinate-inside c.args.wide (c.args.arity - 1 - c.loop-skipped.skipped) c.args.arity c.args.right 4096 (omega (arith, c.loop-skipped-test.true)) c.requires.right)
