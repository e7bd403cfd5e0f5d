use Rattle.std.proofs.Common.{◌≡◌, ◌≤◌, ◌<◌, ◌+◌, ◌*◌, ◌-◌, ℕ, suc, true, drop, refl, sym, ap, ◌∙◌, subst, arith}
use Rattle.std.specs.Prelude.{◌&&◌}
use Rattle.std.proofs.Math.Nat.{mul-le-mul_right}
use Rattle.page_entry.specs.Bytes.{entry_size}
use Rattle.page_entry.specs.Entries.{entry_of, entry_before, is_positive}
use Rattle.page_fmt.proofs.Passes.{passed-before}
use Rattle.page_entry.proofs.Loops.{all-done, next-place}
use Rattle.page_fmt.proofs.Loops.{ascend-done}
use Rattle.page_fmt.proofs.Passing.{ascends, fails, first-test, next-test, positive}
use Rattle.page_fmt.proofs.lawful.are_pairs_lawful.Goals as goal

-- the next entry lies in the page
next-inside : (size count i last whole : ℕ) → size ≡ whole → 0 < i → i < count → count * whole ≤ 4088 → last ≡ 8 + (i - 1) * size → last + size + size ≤ 4096
next-inside size count i last whole is some lt room last-is =
    let next : suc i * size ≤ count * size = mul-le-mul_right size lt in
    let same : count * size ≡ count * whole = ap (λ (s : ℕ). count * s) is in
    let more : i * size + size ≡ suc i * size = omega arith in
    omega (arith, next, same, more, room, last-is, next-place i size some)

pub loop-i-init : goal.loop-i-init
loop-i-init c =
    let m = c.args.shape.now in
    let size = c.size_of_entry-size.result in
    let t = c.are_coordinates_positive.result in
    record {
      positive = positive c.args.arity m c.args.count size 0 c.args.page.now c.size_of_entry-size.ensures (omega (arith, c.if-count-eq0.false))
          t (first-test m.wide c.args.arity size c.args.page.now t c.are_coordinates_positive.ensures) c.if-not-are_coordinates_positive.false refl;
      some = omega arith;
      place = omega arith;
      before = c.last_two-before.ensures.both;
      low = c.last_two-before.ensures.low;
      order = λ k few. absurd (omega (arith, few));
    }

pub last_two-here-requires-clause-place : goal.last_two-here-requires-clause-place
last_two-here-requires-clause-place c =
    let inside = next-inside c.size_of_entry-size.result c.args.count c.loop-i.i c.loop-i.last (entry_size c.args.arity c.args.shape.now) c.size_of_entry-size.ensures
    c.loop-i.invariant.some c.loop-i-test.true c.requires.room c.loop-i.invariant.place in
    omega (arith, inside, c.size_of_entry-size.ensures)

pub is_pair_after-requires-clause-last : goal.is_pair_after-requires-clause-last
is_pair_after-requires-clause-last c =
    let inside = next-inside c.size_of_entry-size.result c.args.count c.loop-i.i c.loop-i.last (entry_size c.args.arity c.args.shape.now) c.size_of_entry-size.ensures
    c.loop-i.invariant.some c.loop-i-test.true c.requires.room c.loop-i.invariant.place in
    omega (arith, inside, c.size_of_entry-size.ensures)

pub is_pair_after-requires-clause-place : goal.is_pair_after-requires-clause-place
is_pair_after-requires-clause-place c =
    let inside = next-inside c.size_of_entry-size.result c.args.count c.loop-i.i c.loop-i.last (entry_size c.args.arity c.args.shape.now) c.size_of_entry-size.ensures
    c.loop-i.invariant.some c.loop-i-test.true c.requires.room c.loop-i.invariant.place in
    omega (arith, inside, c.size_of_entry-size.ensures)

pub is_pair_after-requires-clause-positive : goal.is_pair_after-requires-clause-positive
is_pair_after-requires-clause-positive c =
    let m = c.args.shape.now in
    let i = c.loop-i.i in
    let whole : 8 + (i - 1) * entry_size c.args.arity m ≡ c.loop-i.last
    = ap (λ (s : ℕ). 8 + (i - 1) * s) (sym c.size_of_entry-size.ensures) ∙ sym c.loop-i.invariant.place in
    subst (λ (k : ℕ). is_positive (entry_of c.args.arity m (drop k c.args.page.now)) ≡ true) whole
    (passed-before (entry_of c.args.arity m) (entry_size c.args.arity m) is_positive c.args.count i 8 c.args.page.now c.loop-i.invariant.some
    (omega (arith, c.loop-i-test.true)) c.loop-i.invariant.positive)

pub returns-then-not-is_pair_after : goal.returns-then-not-is_pair_after
returns-then-not-is_pair_after c =
    let m = c.args.shape.now in
    let size = c.size_of_entry-size.result in
    let t = c.is_pair_after.result in
    fails c.args.arity m c.args.count size c.loop-i.i c.args.page.now c.size_of_entry-size.ensures c.loop-i-test.true
    t (next-test m.wide c.args.arity size c.loop-i.i c.loop-i.last (c.loop-i.last + size) c.args.page.now t c.loop-i.invariant.some c.loop-i.invariant.place refl c.is_pair_after.ensures)
    c.if-not-is_pair_after.true

pub loop-i-preserved : goal.loop-i-preserved
loop-i-preserved c =
    let m = c.args.shape.now in
    let size = c.size_of_entry-size.result in
    let t = c.is_pair_after.result in
    let test = next-test m.wide c.args.arity size c.loop-i.i c.loop-i.last (c.loop-i.last + size) c.args.page.now t c.loop-i.invariant.some c.loop-i.invariant.place refl c.is_pair_after.ensures in
    record {
      positive = positive c.args.arity m c.args.count size c.loop-i.i c.args.page.now c.size_of_entry-size.ensures c.loop-i-test.true
          t test c.if-not-is_pair_after.false c.loop-i.invariant.positive;
      some = omega arith;
      place =
          let same : c.loop-i.i + 1 - 1 ≡ c.loop-i.i = omega arith in
          omega (arith, c.loop-i.invariant.place, next-place c.loop-i.i size c.loop-i.invariant.some, ap (λ (k : ℕ). k * size) same);
      before = c.last_two-here.ensures.both;
      low = c.last_two-here.ensures.low;
      order = ascends c.args.arity m c.args.count size c.loop-i.i c.args.page.now c.size_of_entry-size.ensures c.loop-i-test.true
          t test c.if-not-is_pair_after.false c.loop-i.invariant.order;
    }

pub returns : goal.returns
returns c =
    let read = entry_of c.args.arity c.args.shape.now in
    let size = entry_size c.args.arity c.args.shape.now in
    let inv = c.loop-i.invariant in
    let p = all-done read size is_positive c.args.count c.loop-i.i 8 c.args.page.now c.loop-i-test.false inv.positive in
    let o = ascend-done read size entry_before 8 c.args.page.now c.args.count c.loop-i.i c.loop-i-test.false inv.order in
    λ j. sym p j && sym o j
