use Rattle.std.proofs.Common.{◌++◌, ◌+◌, ◌<◌, ◌∙◌, List, filter, length, take, refl, subst, sym, arith}
use Rattle.cube_point.specs.declared.point.Entry.{Entry}
use Rattle.page_entry.specs.Entries.{entries}
use Rattle.range_scan.specs.Meeting.{is_inside}
use Rattle.range_scan.proofs.Lists.{keeps, skips}
use Rattle.range_scan.proofs.Tests.{inside-is}
use Rattle.range_scan.proofs.page.take_each.Goals as goal
use Rattle.range_scan.proofs.page.take_each.Goals.{then-is_inside+in_ok-take, else-is_inside}

pub loop-index-preserved : goal.loop-index-preserved
loop-index-preserved g c = λ start es given.
    let region = c.args.region.now in
    let all = entries c.args.shape.now c.args.page.now in
    let i = c.loop-index.index in
    let e = c.lent_entry-entry.result in
    let low : i < length all = omega arith in
    let test = inside-is c.is_inside.result region e c.is_inside.ensures in
    let now : List Entry = es ++ filter (is_inside region) (take i all) in
    let so_far = c.loop-index.invariant start es given in
    elim c.if-is_inside.branch [
      | then-is_inside+in_ok-take w ↦
          subst (λ t. g.G.Taker.was_given start (es ++ filter (is_inside region) (take (i + 1) all)) t) (sym w.taker-is)
          (subst (λ l. g.G.Taker.was_given start l w.take.new.self) (keeps (is_inside region) all i e es now low c.lent_entry-entry.ensures (sym test ∙ w.if-is_inside.true) refl)
          (w.in_ok-take.ensures start now so_far))
      | else-is_inside w ↦
          subst (λ t. g.G.Taker.was_given start (es ++ filter (is_inside region) (take (i + 1) all)) t) (sym w.taker-is)
          (subst (λ l. g.G.Taker.was_given start l c.loop-index.taker) (skips (is_inside region) all i e es now low c.lent_entry-entry.ensures (sym test ∙ w.if-is_inside.false) refl)
          so_far)
    ]
