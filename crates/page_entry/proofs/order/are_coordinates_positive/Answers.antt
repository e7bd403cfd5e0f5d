use Rattle.std.proofs.Common.{sym, ap, ◌∙◌, drop, arith}
use Rattle.std.specs.Prelude.{nat_lt}
use Rattle.std.proofs.lemmas.Bool.{lt-ltb, le-ltb}
use Rattle.be_numbers.specs.Numbers.{number}
use Rattle.page_entry.specs.Bytes.{width}
use Rattle.page_entry.proofs.Coordinates.{used-all, used-at}
use Rattle.page_entry.proofs.Loops.{all-more, all-fails, all-done}
use Rattle.page_entry.proofs.Widths.{coordinate-inside}
use Rattle.page_entry.proofs.order.are_coordinates_positive.Goals as goal

pub coordinate_at-requires : goal.coordinate_at-requires
coordinate_at-requires c = omega (arith, c.told-page, coordinate-inside c.args.wide c.loop-dimension.dimension c.args.arity c.args.at 4096 c.loop-dimension-test.true c.requires.place)

pub returns-then-coordinate_at-eq0 : goal.returns-then-coordinate_at-eq0
returns-then-coordinate_at-eq0 c =
    let w = width c.args.wide in
    let d = c.loop-dimension.dimension in
    let read = c.coordinate_at.ensures c.args.arity c.loop-dimension-test.true ∙ sym (used-at c.args.wide c.args.arity d c.args.at c.args.page.now c.loop-dimension-test.true) in
    sym (used-all c.args.wide c.args.arity (drop c.args.at c.args.page.now) (λ n. nat_lt 0 n)
    ∙ all-fails (number w) w (λ n. nat_lt 0 n) c.args.arity d c.args.at c.args.page.now c.loop-dimension-test.true
    (ap (nat_lt 0) (sym read) ∙ le-ltb 0 c.coordinate_at.result (omega (arith, c.if-coordinate_at-eq0.true))))

pub loop-dimension-preserved : goal.loop-dimension-preserved
loop-dimension-preserved c =
    let w = width c.args.wide in
    let d = c.loop-dimension.dimension in
    let read = c.coordinate_at.ensures c.args.arity c.loop-dimension-test.true ∙ sym (used-at c.args.wide c.args.arity d c.args.at c.args.page.now c.loop-dimension-test.true) in
    all-more (number w) w (λ n. nat_lt 0 n) c.args.arity d c.args.at c.args.page.now c.loop-dimension-test.true c.loop-dimension.invariant
    (ap (nat_lt 0) (sym read) ∙ lt-ltb 0 c.coordinate_at.result (omega (arith, c.if-coordinate_at-eq0.false)))

pub returns : goal.returns
returns c =
    let w = width c.args.wide in
    sym (used-all c.args.wide c.args.arity (drop c.args.at c.args.page.now) (λ n. nat_lt 0 n)
    ∙ all-done (number w) w (λ n. nat_lt 0 n) c.args.arity c.loop-dimension.dimension c.args.at c.args.page.now c.loop-dimension-test.false c.loop-dimension.invariant)
