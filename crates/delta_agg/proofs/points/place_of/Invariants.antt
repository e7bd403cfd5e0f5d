use Rattle.std.proofs.Common.{◌≡◌, ◌<◌, ℕ, ℤ, List, drop, get_or, sum_by}
use Rattle.cube_point.specs.declared.point.Entry.{Entry}
use Rattle.delta_agg.specs.Orders.{run_count, tree_entries}
use Rattle.delta_agg.proofs.points.place_of.Given as goal

-- the point is one of the views that are left
abbrev pub invariant-loop-view : goal.invariant-loop-view
invariant-loop-view l = record {
  within : l.left < sum_by run_count (drop l.view l.views);
  same : (measures : ℕ) (coded : List (List ℕ)) (numbers : List (List ℤ)) (d : Entry)
      → get_or (tree_entries measures coded numbers l.views) l.at d ≡ get_or (tree_entries measures coded numbers (drop l.view l.views)) l.left d;
}
