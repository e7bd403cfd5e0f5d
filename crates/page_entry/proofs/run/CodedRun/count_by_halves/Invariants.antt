use Rattle.std.proofs.Common.{◌≤◌, ◌-◌, length, take, drop}
use Rattle.std.specs.List.{All}
use Rattle.page_entry.specs.Runs.{Precedes, Follows}
use Rattle.page_entry.proofs.run.CodedRun.count_by_halves.Given as goal

-- those before one place come before the point, and those from another on do not
abbrev pub invariant-loop-low : goal.invariant-loop-low
invariant-loop-low l = record {
  within : l.low ≤ l.high;
  inside : l.high ≤ length l.self.entries;
  before : All (Precedes l.point) (take l.low l.self.entries);
  behind : All (Follows l.point) (drop l.high l.self.entries);
}

abbrev pub decreases-loop-low : goal.decreases-loop-low
decreases-loop-low l = l.high - l.low
