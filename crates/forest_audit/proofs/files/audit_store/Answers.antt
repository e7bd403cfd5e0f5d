use Rattle.forest_audit.specs.Verdicts.{NamesPage}
use Rattle.std.proofs.Common.{ℕ, length, subst, sym}
use Rattle.forest_audit.specs.Audited.{trees_of}
use Rattle.forest_audit.specs.Reading.{AreRead, TellsTrees}
use Rattle.forest_audit.proofs.Naming.{named-page}
use Rattle.forest_audit.proofs.files.audit_store.Goals as goal

pub returns-in-Ok-clause-verdict : goal.returns-in-Ok-clause-verdict
returns-in-Ok-clause-verdict g c = λ tells.
    let forest = c.args.store.now.forest in
    let files = (g.T.Site.disk c.args.site.now).files in
    c.agreed.ensures.verdict files (subst (AreRead files forest.body forest.schema c.args.store.now.dicts (length (trees_of forest.schema))) (sym c.as_slice.ensures.value) (c.in-Ok.ensures.read tells))

pub returns-in-Err-Broken-clause-verdict : goal.returns-in-Err-Broken-clause-verdict
returns-in-Err-Broken-clause-verdict g c = λ tells.
    let forest = c.args.store.now.forest in
    named-page (g.T.Site.disk c.args.site.now).files forest.body forest.schema c.args.store.now.dicts forest.lawful forest.within c.in-Err-Broken.page c.no_page.result (subst (TellsTrees (g.T.Site.disk c.args.site.now).files forest.body forest.schema c.args.store.now.dicts) c.in-Err-Broken.field-0-is (c.in-Err-Broken.ensures.broken tells))
    (subst (λ (page : ℕ). NamesPage forest.body page c.no_page.result) c.in-Err-Broken.page-is c.no_page.ensures)
