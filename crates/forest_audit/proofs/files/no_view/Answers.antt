use Rattle.std.proofs.Common.{◌∙◌, sym}
use Rattle.forest_audit.proofs.Naming.{named-leaf, named-none}
use Rattle.forest_audit.proofs.files.no_view.Goals as goal

pub returns-in-Some : goal.returns-in-Some
returns-in-Some c = λ files read.
    let forest = c.args.store.now.forest in
    let one = c.points_of.ensures.read files read in
    named-leaf files forest.body forest.schema c.args.store.now.dicts forest.lawful forest.within c.args.view c.in-Some.page c.no_page.result c.requires.view (sym one.first ∙ (sym c.first.ensures ∙ c.in-Some.is)) c.no_page.ensures

pub returns-in-None : goal.returns-in-None
returns-in-None c = λ files read.
    let forest = c.args.store.now.forest in
    let one = c.points_of.ensures.read files read in
    named-none files forest.body forest.schema c.args.store.now.dicts forest.lawful forest.within c.args.view c.no_page-in-None.result (sym one.first ∙ (sym c.first.ensures ∙ c.in-None.is)) c.no_page-in-None.ensures
