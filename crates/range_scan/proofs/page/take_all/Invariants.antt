use Rattle.std.proofs.Common.{◌++◌, List, take}
use Rattle.cube_point.specs.declared.point.Entry.{Entry}
use Rattle.page_entry.specs.Entries.{entries}
use Rattle.range_scan.proofs.page.take_all.Given as goal

-- the taker was given the first entries
abbrev pub invariant-loop-index : goal.invariant-loop-index
invariant-loop-index g l = (start : g.row.G.Denot) (es : List Entry) → g.G.Taker.was_given start es l.fn.taker
    → g.G.Taker.was_given start (es ++ take l.index (entries l.shape l.page)) l.taker
