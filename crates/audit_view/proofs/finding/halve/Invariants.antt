use Rattle.std.proofs.Common.{◌≡◌, ◌≤◌, ◌-◌, true, length}
use Rattle.audit_points.specs.Kept.{points_of}
use Rattle.page_entry.specs.Entries.{ascend, entry_before}
use Rattle.audit_view.proofs.Order.{IsAbove, IsBelow}
use Rattle.audit_view.proofs.finding.halve.Given as goal

-- the points before `low` come before the place, and those from `high` on behind it
abbrev pub invariant-loop-low : goal.invariant-loop-low
invariant-loop-low l = record {
  bounds : l.low ≤ l.high;
  inside : l.high ≤ length (points_of l.view);
  below : ascend entry_before (points_of l.view) ≡ true → IsBelow (points_of l.view) l.point.at l.low;
  above : ascend entry_before (points_of l.view) ≡ true → IsAbove (points_of l.view) l.point.at l.high;
}

abbrev pub decreases-loop-low : goal.decreases-loop-low
decreases-loop-low l = l.high - l.low
