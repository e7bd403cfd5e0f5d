use Rattle.std.proofs.Common.{List, ℕ, Err, ap, subst}
use Rattle.tree_scan.specs.Scanning.{leaf_entries}
use Rattle.audit_tree.specs.Kept.{AreKeptWith}
use Rattle.audit_tree.proofs.Results.{on-ok}
use Rattle.audit_tree.proofs.Telling.{short-told}
use Rattle.audit_tree.proofs.tree.TreeAudit.next.Goals as goal

pub returns-in-Ok-clause-goes : goal.returns-in-Ok-clause-goes
returns-in-Ok-clause-goes g c = λ tells counts n here is.
    let bytes = (g.T.Site.disk c.args.site.now).files c.args.place.now.file in
    c.go_on.ensures.goes bytes counts n (c.in-Ok.ensures.page tells).ok here is

pub returns-in-Ok-clause-broken : goal.returns-in-Ok-clause-broken
returns-in-Ok-clause-broken g c = λ tells counts n here few is.
    let bytes = (g.T.Site.disk c.args.site.now).files c.args.place.now.file in
    c.go_on.ensures.broken bytes counts n (c.in-Ok.ensures.page tells).ok here few is

pub returns-in-Ok-clause-kept : goal.returns-in-Ok-clause-kept
returns-in-Ok-clause-kept g c = λ tells.
    let bytes = (g.T.Site.disk c.args.site.now).files c.args.place.now.file in
    on-ok c.go_on.result c.go_on.ensures.keeps (λ keeps.
    subst (λ (p : List ℕ). AreKeptWith (leaf_entries c.args.place.now.shape p) c.args.number c.args.kept.now c.go_on.new.kept) (c.in-Ok.ensures.page tells).ok.bytes_are keeps.kept)

pub returns-in-Ok-clause-open_again : goal.returns-in-Ok-clause-open_again
returns-in-Ok-clause-open_again g c = on-ok c.go_on.result c.go_on.ensures.keeps (λ keeps. keeps.open_again)

pub returns-in-Err-clause-broken : goal.returns-in-Err-clause-broken
returns-in-Err-clause-broken g c = λ tells counts n here few is.
    short-told c.args.place.now counts c.args.limits.now ((g.T.Site.disk c.args.site.now).files c.args.place.now.file) n c.args.number here c.in-Err.stop c.in-Err.ensures.names
    (λ told. (c.in-Err.ensures.page tells).short (ap Err told))
