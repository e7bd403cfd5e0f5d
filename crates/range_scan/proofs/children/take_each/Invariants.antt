use Rattle.std.proofs.Common.{◌≡◌, ◌+◌, ◌-◌, ◌*◌, ◌++◌, drop, reverse}
use Rattle.page_fmt.specs.Taking.{children}
use Rattle.range_scan.specs.Visits.{met}
use Rattle.range_scan.proofs.children.take_each.Given as goal

-- those of the last children that meet the region are ahead
abbrev pub invariant-loop-passed : goal.invariant-loop-passed
invariant-loop-passed l = record {
  goes_on : reverse l.ahead.items ≡ met l.region (drop (l.count - l.passed) (children l.shape l.page)) ++ reverse l.fn.ahead.items;
  place : l.at ≡ 8 + (l.count - l.passed) * l.size;
}
