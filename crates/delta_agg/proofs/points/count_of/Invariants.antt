use Rattle.std.proofs.Common.{◌≡◌, ◌≤◌, ◌*◌, take, sum_by}
use Rattle.delta_agg.specs.Orders.{run_count}
use Rattle.delta_agg.proofs.points.count_of.Given as goal

-- the points of the views passed
abbrev pub invariant-loop-i : goal.invariant-loop-i
invariant-loop-i l = record {
  counted : l.count ≡ sum_by run_count (take l.i l.views);
  few : l.count ≤ l.i * 262144;
}
