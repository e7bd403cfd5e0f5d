use Rattle.std.proofs.Common.{◌≡◌, ◌≤◌, ◌+◌, IsTrue, take}
use Rattle.site_core.specs.Calls.{Rests}
use Rattle.forest_root.specs.Forest.{pages_of_all}
use Rattle.forest_audit.specs.Audited.{trees_of}
use Rattle.forest_audit.specs.Reading.{AreRead, AreShaped}
use Rattle.forest_audit.proofs.trees.read_trees.Given as goal

-- the trees before this one are read
abbrev pub invariant-loop-tree : goal.invariant-loop-tree
invariant-loop-tree g l = record {
  read : IsTrue g.T.Site.tells → AreRead (g.T.Site.disk l.fn.site).files l.store.forest.body l.store.forest.schema l.store.dicts l.tree l.trees.items;
  shaped : AreShaped l.store.forest.body l.store.forest.schema l.tree l.trees.items;
  disk : IsTrue g.T.Site.tells → Rests (g.T.Site.disk l.fn.site) (g.T.Site.disk l.site);
  faults : g.T.Site.disk_faults l.site ≡ g.T.Site.disk_faults l.fn.site;
  told_faults : g.T.Site.told_faults l.site ≡ g.T.Site.told_faults l.fn.site;
  reads : g.T.Site.reads l.site
      ≤ g.T.Site.reads l.fn.site + pages_of_all l.store.forest.body.format l.store.forest.schema l.store.forest.body.counts (take l.tree (trees_of l.store.forest.schema));
  writes : g.T.Site.writes l.site ≡ g.T.Site.writes l.fn.site;
}
