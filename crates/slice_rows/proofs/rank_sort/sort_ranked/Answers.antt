use Rattle.std.proofs.Common.{rules}
use Rattle.std.proofs.lemmas.Fn.{always_returns_same}
use Rattle.slice_rows.specs.Keys.{comes_before}
use Rattle.slice_rows.proofs.RankedPoints.{comes_before-order}
use Rattle.slice_rows.proofs.rank_sort.sort_ranked.Goals as goal

pub returns-clause-sorted : goal.returns-clause-sorted
returns-clause-sorted c = c.in_ok-sort_by.ensures.sorted (comes_before c.args.names.now c.args.view.now c.args.rest.now c.args.points.now)
    (comes_before-order c.args.names.now c.args.view.now c.args.rest.now c.args.points.now) (always_returns_same _ _ _ (λ a r f g. search rules))

pub returns-clause-stable : goal.returns-clause-stable
returns-clause-stable c = c.in_ok-sort_by.ensures.stable (comes_before c.args.names.now c.args.view.now c.args.rest.now c.args.points.now)
    (comes_before-order c.args.names.now c.args.view.now c.args.rest.now c.args.points.now) (always_returns_same _ _ _ (λ a r f g. search rules))
