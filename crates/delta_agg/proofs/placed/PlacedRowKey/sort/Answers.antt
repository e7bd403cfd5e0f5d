use Rattle.std.proofs.Common.{rules}
use Rattle.std.proofs.lemmas.List.Sorted.{ranks_by, answers_always}
use Rattle.cube_point.specs.Points.{comes_before}
use Rattle.cube_point.proofs.PointOrder.{point-total}
use Rattle.delta_agg.specs.declared.placed.Placed.{Placed}
use Rattle.delta_agg.proofs.placed.PlacedRowKey.sort.Goals as goal

pub returns-clause-sorted : goal.returns-clause-sorted
returns-clause-sorted c =
    c.sort_unstable_by.ensures.sorted (λ p q. comes_before p.point q.point) (ranks_by point-total (λ (p : Placed). p.point.at)) (answers_always _ _ _ (λ f a r g h. search rules))
