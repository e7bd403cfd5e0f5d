use Rattle.std.proofs.Common.{◌≡◌, ◌+◌, ◌<◌, ◌≤◌, ℕ, get_or, length, ◌∙◌, ap, sym, arith}
use Rattle.std.proofs.lemmas.List.{get_or_read}
use Rattle.std.proofs.lemmas.List.Sums.{sum_by_more}
use Rattle.delta_agg.specs.declared.runs.ViewRuns.{ViewRuns}
use Rattle.delta_agg.specs.Orders.{IsTree, no_view, run_count}
use Rattle.delta_agg.proofs.RunCuts.{few-cuts}
use Rattle.delta_agg.proofs.points.count_of.Goals as goal
use Rattle.std.proofs.Common.{List}

-- a view has no more runs than there are rows
few : (coded : List (List ℕ)) (views : List ViewRuns) (i : ℕ) → length coded ≤ 262144 → IsTree coded views → i < length views → run_count (get_or views i no_view) ≤ 262144
few coded views i rows tree low =
    let v : ViewRuns = get_or views i no_view in
    omega (arith, rows, few-cuts v.view coded v.runs.order v.runs.cuts (tree.each i no_view low).ordered)

pub overflow_add-count : goal.overflow_add-count
overflow_add-count c =
    let counted : c.count-count.result ≡ run_count (get_or c.args.views.now c.loop-i.i no_view) = c.count-count.ensures ∙ ap run_count (get_or_read c.args.views.now c.loop-i.i c.index-views-i.result c.loop-i-test.true c.index-views-i.is no_view) in
    omega (arith, counted, few c.args.coded.now c.args.views.now c.loop-i.i c.requires.few c.requires.tree c.loop-i-test.true, c.loop-i.invariant.few, c.loop-i-test.true, c.requires.tree.nine)

pub loop-i-preserved : goal.loop-i-preserved
loop-i-preserved c =
    let counted : c.count-count.result ≡ run_count (get_or c.args.views.now c.loop-i.i no_view) = c.count-count.ensures ∙ ap run_count (get_or_read c.args.views.now c.loop-i.i c.index-views-i.result c.loop-i-test.true c.index-views-i.is no_view) in
    record {
      counted = (λ j. c.loop-i.invariant.counted j + counted j) ∙ sym (sum_by_more run_count c.args.views.now c.loop-i.i no_view c.loop-i-test.true);
      few = omega (arith, counted, few c.args.coded.now c.args.views.now c.loop-i.i c.requires.few c.requires.tree c.loop-i-test.true, c.loop-i.invariant.few);
    }
