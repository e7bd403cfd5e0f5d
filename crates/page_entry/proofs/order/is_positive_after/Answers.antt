use Rattle.std.proofs.Common.{◌≡◌, ◌<◌, ◌+◌, ◌-◌, ℕ, suc, Bool, true, take, drop, sym, ap, ◌∙◌, arith}
use Rattle.std.specs.List.{list_all}
use Rattle.std.specs.Ordering.{is_lt}
use Rattle.std.specs.Prelude.{slice_index, ◌&&◌}
use Rattle.std.proofs.Math.Bool.{and-false, and-true}
use Rattle.std.proofs.lemmas.Bool.{lt-ltb, le-ltb}
use Rattle.cube_point.proofs.PointOrder.{cmp_down}
use Rattle.page_entry.specs.Entries.{are_positive, point_of}
use Rattle.page_entry.proofs.Coordinates.{coordinates, down-same, walk}
use Rattle.page_entry.proofs.Following.{each-positive, front-alone, front-same, positive}
use Rattle.page_entry.proofs.Pairs.{differ-tells}
use Rattle.page_entry.proofs.Widths.{coordinate-inside}
use Rattle.page_entry.proofs.order.is_positive_after.Goals as goal

pub returns-then-b-a : goal.returns-then-b-a
returns-then-b-a c =
    let arity = c.args.arity in
    let left = drop c.args.last c.args.page.now in
    let right = drop c.args.at c.args.page.now in
    let i = arity - 1 - c.loop-skipped.skipped in
    let next : suc i ≡ arity - c.loop-skipped.skipped = omega (arith, c.loop-skipped-test.true) in
    let low : i < arity = omega (arith, c.loop-skipped-test.true) in
    let tells = differ-tells c.args.wide arity i (arity - c.loop-skipped.skipped) left right c.coordinate_at-a.result c.coordinate_at-b.result c.requires.arity next
    (c.coordinate_at-a.ensures arity low) (c.coordinate_at-b.ensures arity low) c.if-a-b.true c.loop-skipped.invariant.down in
    let other = sym tells ∙ le-ltb c.coordinate_at-a.result c.coordinate_at-b.result (omega (arith, c.if-b-a.true)) in
    sym (ap (λ (t : Bool). are_positive (point_of c.args.wide arity right) && t) other ∙ and-false (are_positive (point_of c.args.wide arity right)))

pub returns-then-a-b : goal.returns-then-a-b
returns-then-a-b c =
    let arity = c.args.arity in
    let left = drop c.args.last c.args.page.now in
    let right = drop c.args.at c.args.page.now in
    let i = arity - 1 - c.loop-skipped.skipped in
    let next : suc i ≡ arity - c.loop-skipped.skipped = omega (arith, c.loop-skipped-test.true) in
    let more : arity - c.loop-skipped.skipped ≡ i + 1 = omega (arith, c.loop-skipped-test.true) in
    let low : i < arity = omega (arith, c.loop-skipped-test.true) in
    let a = c.coordinate_at-a.result in
    let b = c.coordinate_at-b.result in
    let b-is = c.coordinate_at-b.ensures arity low in
    let tells = differ-tells c.args.wide arity i (arity - c.loop-skipped.skipped) left right a b c.requires.arity next
    (c.coordinate_at-a.ensures arity low) b-is c.if-a-b.true c.loop-skipped.invariant.down in
    let below : a < b = omega (arith, c.if-a-b.true, c.if-b-a.false) in
    let before = sym tells ∙ lt-ltb a b below in
    let some : positive (slice_index (coordinates c.args.wide arity right) i) ≡ true = ap positive (sym b-is) ∙ lt-ltb 0 b (omega (arith, below)) in
    let front = sym c.loop-skipped.invariant.front
    ∙ (ap (λ (n : ℕ). list_all positive (take n (coordinates c.args.wide arity right))) more
    ∙ (front-same c.args.wide arity right c.requires.arity i low some ∙ front-alone c.args.wide arity right c.requires.arity i (omega (arith, low)))) in
    c.are_coordinates_positive.ensures
    ∙ (sym front ∙ sym (ap (λ (t : Bool). are_positive (point_of c.args.wide arity right) && t) before ∙ and-true (are_positive (point_of c.args.wide arity right))))

pub loop-skipped-preserved : goal.loop-skipped-preserved
loop-skipped-preserved c =
    let arity = c.args.arity in
    let left = drop c.args.last c.args.page.now in
    let right = drop c.args.at c.args.page.now in
    let i = arity - 1 - c.loop-skipped.skipped in
    let here : suc i ≡ arity - c.loop-skipped.skipped = omega (arith, c.loop-skipped-test.true) in
    let more : i + 1 ≡ arity - c.loop-skipped.skipped = omega (arith, c.loop-skipped-test.true) in
    let less : arity - (c.loop-skipped.skipped + 1) ≡ i = omega (arith, c.loop-skipped-test.true) in
    let low : i < arity = omega (arith, c.loop-skipped-test.true) in
    let same : slice_index (coordinates c.args.wide arity left) i ≡ slice_index (coordinates c.args.wide arity right) i
    = sym (c.coordinate_at-a.ensures arity low) ∙ (c.if-a-b.false ∙ c.coordinate_at-b.ensures arity low) in
    let some = ap positive (sym same) ∙ each-positive c.args.wide arity left c.requires.arity c.requires.positive i low in
    record {
      down = ap (λ (k : ℕ). cmp_down k (coordinates c.args.wide arity left) (coordinates c.args.wide arity right)) less
          ∙ (sym (down-same i (coordinates c.args.wide arity left) (coordinates c.args.wide arity right) same)
          ∙ (ap (λ (k : ℕ). cmp_down k (coordinates c.args.wide arity left) (coordinates c.args.wide arity right)) here ∙ c.loop-skipped.invariant.down));
      front = ap (λ (k : ℕ). list_all positive (take k (coordinates c.args.wide arity right))) less
          ∙ (sym (front-same c.args.wide arity right c.requires.arity i low some)
          ∙ (ap (λ (k : ℕ). list_all positive (take k (coordinates c.args.wide arity right))) more ∙ c.loop-skipped.invariant.front));
    }

pub returns : goal.returns
returns c =
    let arity = c.args.arity in
    let left = drop c.args.last c.args.page.now in
    let right = drop c.args.at c.args.page.now in
    let none : 0 ≡ arity - c.loop-skipped.skipped = omega (arith, c.loop-skipped-test.false) in
    let other = ap is_lt (ap (λ (k : ℕ). cmp_down k (coordinates c.args.wide arity left) (coordinates c.args.wide arity right)) none ∙ (c.loop-skipped.invariant.down ∙ walk c.args.wide arity left right c.requires.arity)) in
    sym (ap (λ (t : Bool). are_positive (point_of c.args.wide arity right) && t) (sym other) ∙ and-false (are_positive (point_of c.args.wide arity right)))

pub coordinate_at-a-requires : goal.coordinate_at-a-requires
coordinate_at-a-requires c =
    omega (arith, c.told-page, coordinate-inside c.args.wide (c.args.arity - 1 - c.loop-skipped.skipped) c.args.arity c.args.last 4096 (omega (arith, c.loop-skipped-test.true)) c.requires.last)

pub coordinate_at-b-requires : goal.coordinate_at-b-requires
coordinate_at-b-requires c =
    omega (arith, c.told-page, coordinate-inside c.args.wide (c.args.arity - 1 - c.loop-skipped.skipped) c.args.arity c.args.at 4096 (omega (arith, c.loop-skipped-test.true)) c.requires.place)
