use Rattle.std.proofs.Common.{◌≡◌, ◌≤◌, ◌+◌, ◌++◌, List, ℕ, IsTrue, length}
use Rattle.site_core.specs.Calls.{Rests}
use Rattle.cube_point.specs.declared.point.Entry.{Entry}
use Rattle.page_cache.specs.Keeping.{Agrees, HasRoom, LiesIn}
use Rattle.page_cache.proofs.Keeping.{AreAsked}
use Rattle.range_scan.specs.Steps.{AreAhead}
use Rattle.range_scan.specs.Visits.{found_in, visits}
use Rattle.range_scan.proofs.Underway.{IsUnderway}
use Rattle.range_scan.proofs.walk.walk.Given as goal

-- as many pages were asked for as steps are taken, the taker was given their points, and they are kept where there is room for all
abbrev pub invariant-loop : goal.invariant-loop
invariant-loop g l = record {
  so_far : IsTrue g.T.Site.tells → Agrees (g.T.Site.disk l.fn.site).files l.fn.pages → (asked : List ℕ) × (length asked ≡ l.counter)
      × IsUnderway l.query.tree.now l.query.region.now ((g.T.Site.disk l.fn.site).files l.query.tree.now.file) asked l.ahead.items
      × ((start : g.row.G.Denot) (es : List Entry) → g.G.Taker.was_given start es l.fn.taker
      → g.G.Taker.was_given start (es ++ found_in l.query.tree.now l.query.region.now ((g.T.Site.disk l.fn.site).files l.query.tree.now.file) asked) l.taker)
      × (HasRoom l.fn.pages l.query.tree.now.file (visits l.query.tree.now l.query.region.now ((g.T.Site.disk l.fn.site).files l.query.tree.now.file))
      → AreAsked l.fn.pages l.pages (g.T.Site.reads l.fn.site) (g.T.Site.reads l.site) l.query.tree.now.file asked);
  ahead : AreAhead l.query.tree.now l.ahead.items;
  capacity : l.pages.capacity ≡ l.fn.pages.capacity;
  agrees : IsTrue g.T.Site.tells → Agrees (g.T.Site.disk l.fn.site).files l.fn.pages → Agrees (g.T.Site.disk l.site).files l.pages;
  lies : LiesIn l.query.tree.now.file l.fn.pages → LiesIn l.query.tree.now.file l.pages;
  disk : IsTrue g.T.Site.tells → Rests (g.T.Site.disk l.fn.site) (g.T.Site.disk l.site);
  faults : g.T.Site.disk_faults l.site ≡ g.T.Site.disk_faults l.fn.site;
  told_faults : g.T.Site.told_faults l.site ≡ g.T.Site.told_faults l.fn.site;
  reads : g.T.Site.reads l.site ≤ g.T.Site.reads l.fn.site + l.counter;
  writes : g.T.Site.writes l.site ≡ g.T.Site.writes l.fn.site;
}
