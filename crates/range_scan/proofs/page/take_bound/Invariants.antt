use Rattle.std.proofs.Common.{◌≡◌, ◌+◌, ◌*◌, ◌++◌, List, filter, take}
use Rattle.cube_point.specs.declared.point.Entry.{Entry}
use Rattle.page_entry.specs.Entries.{entries}
use Rattle.range_scan.specs.Meeting.{is_inside}
use Rattle.range_scan.proofs.page.take_bound.Given as goal

-- the taker was given those of the first entries that lie in the region
abbrev pub invariant-loop-index : goal.invariant-loop-index
invariant-loop-index g l = record {
  given : (start : g.row.G.Denot) (es : List Entry) → g.G.Taker.was_given start es l.fn.taker
      → g.G.Taker.was_given start (es ++ filter (is_inside l.region) (take l.index (entries l.shape l.page))) l.taker;
  place : l.next ≡ 8 + l.index * l.size;
}
