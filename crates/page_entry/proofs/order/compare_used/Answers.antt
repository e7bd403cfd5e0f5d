use Rattle.std.proofs.Common.{rules, ◌≡◌, ◌≢◌, ◌≤◌, ◌<◌, ◌+◌, ◌-◌, ℕ, suc, Bool, List, length, sym, ap, subst, ◌∙◌, arith}
use Rattle.std.specs.Prelude.{slice_index}
use Rattle.std.specs.Ordering.{nat_cmp}
use Rattle.cube_point.specs.Points.{point_cmp}
use Rattle.cube_point.proofs.PointOrder.{cmp_down, cmp-down}
use Rattle.page_entry.proofs.Coordinates.{coordinates, down-differ, down-same, down-tail, eight, unused-at}
use Rattle.page_entry.proofs.Widths.{coordinate-inside}
use Rattle.page_entry.proofs.order.compare_used.Goals as goal

-- the walk over the used coordinates tells it
walk : (wide : Bool) (arity : ℕ) (bytes b : List ℕ) → arity ≤ 8 → length b ≡ 8 → ((i : ℕ) → arity ≤ i → i < 8 → slice_index b i ≡ 0) → cmp_down arity (coordinates wide arity bytes) b ≡ point_cmp (coordinates wide arity bytes) b
walk wide arity bytes b le long zero =
    sym (down-tail 8 (coordinates wide arity bytes) b arity le (λ i past lt. unused-at wide arity i bytes past ∙ sym (zero i past lt))) ∙ cmp-down (coordinates wide arity bytes) b (eight wide arity bytes le) long

pub returns-then-own-point : goal.returns-then-own-point
returns-then-own-point c =
    let arity = c.args.arity in
    let a = coordinates c.args.wide arity c.args.bytes.now in
    let b = c.args.point.now.at in
    let long : length b ≡ 8 = search rules in
    let i = arity - 1 - c.loop-skipped.skipped in
    let next : suc i ≡ arity - c.loop-skipped.skipped = omega (arith, c.loop-skipped-test.true) in
    let own : c.coordinate_at-own.result ≡ slice_index a i = c.coordinate_at-own.ensures arity (omega (arith, c.loop-skipped-test.true)) in
    c.cmp.ensures ∙ (ap (λ (x : ℕ). nat_cmp x (slice_index b i)) own
    ∙ (sym (down-differ i a b (subst (λ (x : ℕ). x ≢ slice_index b i) own c.if-own-point.true))
    ∙ (ap (λ (k : ℕ). cmp_down k a b) next ∙ (c.loop-skipped.invariant ∙ walk c.args.wide arity c.args.bytes.now b c.requires.arity long c.requires.zero))))

pub loop-skipped-preserved : goal.loop-skipped-preserved
loop-skipped-preserved c =
    let arity = c.args.arity in
    let a = coordinates c.args.wide arity c.args.bytes.now in
    let b = c.args.point.now.at in
    let i = arity - 1 - c.loop-skipped.skipped in
    let here : suc i ≡ arity - c.loop-skipped.skipped = omega (arith, c.loop-skipped-test.true) in
    let below : arity - (c.loop-skipped.skipped + 1) ≡ i = omega (arith, c.loop-skipped-test.true) in
    let own : c.coordinate_at-own.result ≡ slice_index a i = c.coordinate_at-own.ensures arity (omega (arith, c.loop-skipped-test.true)) in
    ap (λ (k : ℕ). cmp_down k a b) below ∙ (sym (down-same i a b (sym own ∙ c.if-own-point.false)) ∙ (ap (λ (k : ℕ). cmp_down k a b) here ∙ c.loop-skipped.invariant))

pub returns : goal.returns
returns c =
    let a = coordinates c.args.wide c.args.arity c.args.bytes.now in
    let b = c.args.point.now.at in
    let long : length b ≡ 8 = search rules in
    let none : 0 ≡ c.args.arity - c.loop-skipped.skipped = omega (arith, c.loop-skipped-test.false) in
    ap (λ (k : ℕ). cmp_down k a b) none ∙ (c.loop-skipped.invariant ∙ walk c.args.wide c.args.arity c.args.bytes.now b c.requires.arity long c.requires.zero)

pub coordinate_at-own-requires : goal.coordinate_at-own-requires
coordinate_at-own-requires c =
    omega (arith, coordinate-inside c.args.wide (c.args.arity - 1 - c.loop-skipped.skipped) c.args.arity 0 (length c.args.bytes.now) (omega (arith, c.loop-skipped-test.true)) (omega (arith, c.requires.place)))
