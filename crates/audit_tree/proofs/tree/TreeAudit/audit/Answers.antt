use Rattle.std.proofs.Common.{rules, ◌≡◌, ◌+◌, ◌-◌, ℕ, None, sym, ap, subst, arith}
use Rattle.site_core.specs.Disk.{Files}
use Rattle.site_core.proofs.Run.{Rests-then}
use Rattle.page_fmt.specs.InFiles.{page_at}
use Rattle.tree_pack.specs.Moving.{Moving, begun}
use Rattle.tree_scan.specs.Scanning.{leaf_entries}
use Rattle.audit_tree.specs.Auditing.{IsAuditing, IsSafe}
use Rattle.audit_tree.specs.Broken.{IsBrokenAt}
use Rattle.audit_tree.specs.Kept.{AreKept, AreKeptWith}
use Rattle.audit_tree.proofs.Going.{auditing-audited, auditing-begins, auditing-whole}
use Rattle.audit_tree.proofs.Keeping.{kept-begins, kept-more, open-begins, open-views}
use Rattle.audit_tree.proofs.Safe.{safe-begins}
use Rattle.audit_tree.proofs.Telling.{ending-told}
use Rattle.audit_tree.proofs.tree.TreeAudit.audit.Goals as goal

pub loop-number-init : goal.loop-number-init
loop-number-init g c =
    let place = c.args.place.now in
    let counts = c.args.counts.now in
    let limits = c.args.limits.now in
    let bytes = (g.T.Site.disk c.args.site.now).files place.file in
    let at = c.start.ensures in
    record {
      safe = subst (IsSafe place.shape counts) (sym at) (safe-begins place.shape place.first counts c.requires.shape c.requires.counts c.told-counts);
      number = ap (λ (m : Moving). m.next_page) at;
      audits = λ tells n here.
          let none : 0 ≡ n = omega (arith, here) in
          subst (λ (m : Moving). IsAuditing place counts limits bytes n counts None m) (sym at)
          (subst (λ (k : ℕ). IsAuditing place counts limits bytes k counts None (begun place.shape place.first)) none (auditing-begins place counts limits bytes));
      kept = λ tells n here.
          let none : 0 ≡ n = omega (arith, here) in
          subst (λ (k : ℕ). AreKept place bytes k c.in_ok-kept.kept) none (kept-begins place.shape c.in_ok-kept.kept c.in_ok-kept.ensures place bytes);
      room = open-begins place.shape c.in_ok-kept.kept c.in_ok-kept.ensures counts c.requires.counts;
      disk = search rules;
      faults = search rules;
      told_faults = search rules;
      reads = omega arith;
      writes = search rules;
    }

pub loop-number-preserved : goal.loop-number-preserved
loop-number-preserved g c =
    let place = c.args.place.now in
    let counts = c.args.counts.now in
    let limits = c.args.limits.now in
    let bytes = (g.T.Site.disk c.args.site.now).files place.file in
    let inv = c.loop-number.invariant in
    let number = c.loop-number.number in
    let now = c.in-Ok.ensures in
    record {
      safe = now.safe;
      number = now.number;
      audits = λ tells n here.
          let at : place.first + (n - 1) ≡ number = omega (arith, here, inv.number) in
          let more : n - 1 + 1 ≡ n = omega (arith, here, at) in
          let same : (g.T.Site.disk c.loop-number.site).files ≡ (g.T.Site.disk c.args.site.now).files = (inv.disk tells).files in
          subst (λ (k : ℕ). IsAuditing place counts limits bytes k c.next.new.self.left c.next.new.self.last c.next.new.self.packer.at) more
          (subst (λ (f : Files). IsAuditing place counts limits (f place.file) (n - 1 + 1) c.next.new.self.left c.next.new.self.last c.next.new.self.packer.at) same
          (now.goes tells counts (n - 1) at
          (subst (λ (f : Files). IsAuditing place counts limits (f place.file) (n - 1) c.loop-number.self.left c.loop-number.self.last c.loop-number.self.packer.at) (sym same) (inv.audits tells (n - 1) at))));
      kept = λ tells n here.
          let at : place.first + (n - 1) ≡ number = omega (arith, here, inv.number) in
          let more : n - 1 + 1 ≡ n = omega (arith, here, at) in
          let same : (g.T.Site.disk c.loop-number.site).files ≡ (g.T.Site.disk c.args.site.now).files = (inv.disk tells).files in
          subst (λ (k : ℕ). AreKept place bytes k c.next.new.kept) more
          (kept-more place bytes (n - 1) number at c.loop-number.kept c.next.new.kept (inv.kept tells (n - 1) at)
          (subst (λ (f : Files). AreKeptWith (leaf_entries place.shape (page_at (f place.file) number)) number c.loop-number.kept c.next.new.kept) same (now.kept tells)));
      room = now.open_again;
      disk = λ tells. Rests-then (g.T.Site.disk c.args.site.now) (g.T.Site.disk c.loop-number.site) (g.T.Site.disk c.next.new.site) (inv.disk tells) (now.looks.disk tells);
      faults = search rules;
      told_faults = search rules;
      reads = omega arith;
      writes = search rules;
    }

pub returns-in-Err-clause-broken : goal.returns-in-Err-clause-broken
returns-in-Err-clause-broken g c = λ tells.
    let place = c.args.place.now in
    let inv = c.loop-number.invariant in
    let number = c.loop-number.number in
    let n = number - place.first in
    let at : place.first + n ≡ number = omega arith in
    let same : (g.T.Site.disk c.loop-number.site).files ≡ (g.T.Site.disk c.args.site.now).files = (inv.disk tells).files in
    let audits = inv.audits tells n at in
    let told = c.in-Err.ensures.broken tells c.args.counts.now n at c.requires.counts
    (subst (λ (f : Files). IsAuditing place c.args.counts.now c.args.limits.now (f place.file) n c.loop-number.self.left c.loop-number.self.last c.loop-number.self.packer.at) (sym same) audits) in
    ending-told place c.args.counts.now c.args.limits.now ((g.T.Site.disk c.args.site.now).files place.file) n (omega arith)
    (auditing-audited place c.args.counts.now c.args.limits.now ((g.T.Site.disk c.args.site.now).files place.file) n c.loop-number.self.left c.loop-number.self.last c.loop-number.self.packer.at
    c.requires.shape c.requires.counts inv.safe.shape_is audits)
    c.in-Err.stop (subst (λ (f : Files). IsBrokenAt place c.args.counts.now c.args.limits.now (f place.file) n c.in-Err.stop) same told)

pub returns-clause-audited : goal.returns-clause-audited
returns-clause-audited g c = λ tells.
    let place = c.args.place.now in
    let inv = c.loop-number.invariant in
    auditing-whole place c.args.counts.now c.args.limits.now ((g.T.Site.disk c.args.site.now).files place.file) c.loop-number.self.left c.loop-number.self.last c.loop-number.self.packer.at
    c.requires.shape c.requires.counts inv.safe.shape_is inv.safe.empty c.requires.pages (inv.audits tells place.pages (omega arith))

pub returns-clause-kept : goal.returns-clause-kept
returns-clause-kept g c = λ tells. c.loop-number.invariant.kept tells c.args.place.now.pages (omega arith)

pub returns-clause-views : goal.returns-clause-views
returns-clause-views g c = open-views c.args.place.now.shape c.loop-number.self.left c.loop-number.kept c.loop-number.invariant.room
