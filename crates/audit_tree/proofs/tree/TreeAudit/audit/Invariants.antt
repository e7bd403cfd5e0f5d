use Rattle.std.proofs.Common.{◌≡◌, ◌≤◌, ◌+◌, ℕ, IsTrue}
use Rattle.site_core.specs.Calls.{Rests}
use Rattle.audit_tree.specs.Auditing.{IsAuditing, IsSafe}
use Rattle.audit_tree.specs.Kept.{AreKept, AreOpen}
use Rattle.audit_tree.proofs.tree.TreeAudit.audit.Given as goal

-- the pages before this one are audited
abbrev pub invariant-loop-number : goal.invariant-loop-number
invariant-loop-number g l = record {
  safe : IsSafe l.place.shape l.self.left l.self.packer.at;
  number : l.self.packer.at.next_page ≡ l.number;
  audits : IsTrue g.T.Site.tells → (n : ℕ) → l.place.first + n ≡ l.number
      → IsAuditing l.place l.counts l.limits ((g.T.Site.disk l.fn.site).files l.place.file) n l.self.left l.self.last l.self.packer.at;
  kept : IsTrue g.T.Site.tells → (n : ℕ) → l.place.first + n ≡ l.number → AreKept l.place ((g.T.Site.disk l.fn.site).files l.place.file) n l.kept;
  room : AreOpen l.place.shape l.self.left l.kept;
  disk : IsTrue g.T.Site.tells → Rests (g.T.Site.disk l.fn.site) (g.T.Site.disk l.site);
  faults : g.T.Site.disk_faults l.site ≡ g.T.Site.disk_faults l.fn.site;
  told_faults : g.T.Site.told_faults l.site ≡ g.T.Site.told_faults l.fn.site;
  reads : g.T.Site.reads l.site + l.place.first ≤ g.T.Site.reads l.fn.site + l.number;
  writes : g.T.Site.writes l.site ≡ g.T.Site.writes l.fn.site;
}
