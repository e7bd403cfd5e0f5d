use Rattle.std.proofs.Common.{◌≡◌, ◌+◌, ◌-◌, ◌<◌, ◌≤◌, drop, get_or, sym, ◌∙◌, ap, subst, arith}
use Rattle.std.proofs.lemmas.List.{get_or_read}
use Rattle.delta_agg.specs.Orders.{no_view, run_count, tree_entries}
use Rattle.delta_agg.proofs.TreeRuns.{left-more, place-here, place-later}
use Rattle.delta_agg.proofs.points.place_of.Goals as goal

pub returns-then-left-count-clause-at : goal.returns-then-left-count-clause-at
returns-then-left-count-clause-at c =
    let counted : c.count-count.result ≡ run_count (get_or c.args.views.now c.loop-view.view no_view) = c.count-count.ensures ∙ ap run_count (get_or_read c.args.views.now c.loop-view.view c.index-views-view.result c.loop-view-test.true c.index-views-view.is no_view) in
    subst (λ n. c.loop-view.left < n) counted c.if-left-count.true

pub returns-then-left-count-clause-is : goal.returns-then-left-count-clause-is
returns-then-left-count-clause-is c = λ measures coded numbers d.
    c.loop-view.invariant.same measures coded numbers d
    ∙ place-here measures coded numbers c.args.views.now c.loop-view.view c.loop-view.left c.loop-view-test.true d (returns-then-left-count-clause-at c)

pub loop-view-preserved : goal.loop-view-preserved
loop-view-preserved c =
    let views = c.args.views.now in
    let i = c.loop-view.view in
    let left = c.loop-view.left in
    let counted : c.count-count.result ≡ run_count (get_or views i no_view) = c.count-count.ensures ∙ ap run_count (get_or_read views i c.index-views-view.result c.loop-view-test.true c.index-views-view.is no_view) in
    let past : run_count (get_or views i no_view) ≤ left = subst (λ n. n ≤ left) counted c.if-left-count.false in
    record {
      within = omega (arith, counted, past, c.loop-view.invariant.within, left-more views i c.loop-view-test.true);
      same = λ measures coded numbers d.
          c.loop-view.invariant.same measures coded numbers d
          ∙ (place-later measures coded numbers views i left c.loop-view-test.true d past
          ∙ ap (λ n. get_or (tree_entries measures coded numbers (drop (i + 1) views)) (left - n) d) (sym counted));
    }
