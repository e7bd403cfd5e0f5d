use Rattle.std.proofs.Common.{◌≡◌, ◌<◌, ◌≤◌, ◌+◌, ◌*◌, ◌++◌, ◌∙◌, ℕ, List, filter, length, take, refl, subst, sym, ap, arith}
use Rattle.cube_point.specs.declared.point.Entry.{Entry}
use Rattle.page_entry.specs.Bytes.{entry_size, width}
use Rattle.page_entry.specs.Entries.{entries, page_arity}
use Rattle.page_entry.proofs.Lent.{lent-inside}
use Rattle.page_entry.proofs.Widths.{coordinate-inside}
use Rattle.range_scan.specs.Meeting.{is_inside}
use Rattle.range_scan.proofs.Bound.{passed}
use Rattle.range_scan.proofs.Lists.{keeps, skips}
use Rattle.range_scan.proofs.Tests.{inside-is}
use Rattle.range_scan.proofs.page.take_bound.Goals as goal
use Rattle.range_scan.proofs.page.take_bound.Goals.{then-is_inside+in_ok-take, else-is_inside}

pub is_out-requires-clause-place : goal.is_out-requires-clause-place
is_out-requires-clause-place g c =
    let b = c.args.page.now in
    let size = c.size_of_entry-size.result in
    let inside = lent-inside c.args.shape.now b c.loop-index.index size c.requires.page (omega (arith, c.requires.said, c.loop-index-test.true)) c.size_of_entry-size.ensures c.told-page in
    let all : c.loop-index.next + page_arity b * width c.args.shape.now.wide ≤ 4096 = omega (arith, inside, c.told-page, c.loop-index.invariant.place, c.size_of_entry-size.ensures) in
    coordinate-inside c.args.shape.now.wide c.args.dimension (page_arity b) c.loop-index.next 4096 c.requires.used all

pub loop-index-preserved-then-is_out : goal.loop-index-preserved-then-is_out
loop-index-preserved-then-is_out g c =
    let b = c.args.page.now in
    let i = c.loop-index.index in
    let at-is : c.loop-index.next ≡ 8 + i * entry_size (page_arity b) c.args.shape.now = c.loop-index.invariant.place ∙ ap (λ (s : ℕ). 8 + i * s) c.size_of_entry-size.ensures in
    record {
      given = λ start es given.
          subst (λ l. g.G.Taker.was_given start l c.loop-index.taker)
          (passed c.args.shape.now c.args.region.now b i c.loop-index.next (omega (arith, c.requires.said, c.loop-index-test.true)) (omega (arith, c.requires.count, c.loop-index-test.true)) at-is
          (c.is_out.ensures (page_arity b) c.requires.used c.if-is_out.true) es)
          (c.loop-index.invariant.given start es given);
      place = omega (arith, c.loop-index.invariant.place);
    }

pub loop-index-preserved : goal.loop-index-preserved
loop-index-preserved g c = record {
  given = λ start es given.
      let region = c.args.region.now in
      let all = entries c.args.shape.now c.args.page.now in
      let i = c.loop-index.index in
      let e = c.lent_entry-entry.result in
      let low : i < length all = omega (arith, c.requires.count, c.loop-index-test.true) in
      let test = inside-is c.is_inside.result region e c.is_inside.ensures in
      let now : List Entry = es ++ filter (is_inside region) (take i all) in
      let so_far = c.loop-index.invariant.given start es given in
      elim c.if-is_inside.branch [
        | then-is_inside+in_ok-take w ↦
            subst (λ t. g.G.Taker.was_given start (es ++ filter (is_inside region) (take (i + 1) all)) t) (sym w.taker-is)
            (subst (λ l. g.G.Taker.was_given start l w.take.new.self) (keeps (is_inside region) all i e es now low c.lent_entry-entry.ensures (sym test ∙ w.if-is_inside.true) refl)
            (w.in_ok-take.ensures start now so_far))
        | else-is_inside w ↦
            subst (λ t. g.G.Taker.was_given start (es ++ filter (is_inside region) (take (i + 1) all)) t) (sym w.taker-is)
            (subst (λ l. g.G.Taker.was_given start l c.loop-index.taker) (skips (is_inside region) all i e es now low c.lent_entry-entry.ensures (sym test ∙ w.if-is_inside.false) refl)
            so_far)
      ];
  place = omega (arith, c.loop-index.invariant.place);
}
