use Rattle.std.proofs.Common.{◌<◌, [], Some, None, length, subst}
use Rattle.forest_audit.specs.Agreeing.{FindsWrong}
use Rattle.forest_audit.proofs.Naming.{named-view}
use Rattle.forest_audit.proofs.Results.{some-holds}
use Rattle.forest_audit.proofs.files.agreed.Goals as goal

pub no_view-requires-clause-view : goal.no_view-requires-clause-view
no_view-requires-clause-view c = some-holds (λ view. view < length c.args.store.now.forest.schema.views) c.in-Ok-Some.field-0 c.in-Ok-Some.view c.in-Ok-Some.ensures.inside c.in-Ok-Some.field-0-is

pub returns-in-Ok-None-clause-verdict : goal.returns-in-Ok-None-clause-verdict
returns-in-Ok-None-clause-verdict c = λ files read.
    let forest = c.args.store.now.forest in
    let none : FindsWrong files forest.body forest.schema c.args.store.now.dicts None = subst (FindsWrong files forest.body forest.schema c.args.store.now.dicts) c.in-Ok-None.field-0-is (c.in-Ok-None.ensures.wrong files read) in
    record { trees = λ t lt. (read.each t [] lt).keeps; views = none }

pub returns-in-Ok-Some-clause-verdict : goal.returns-in-Ok-Some-clause-verdict
returns-in-Ok-Some-clause-verdict c = λ files read.
    let forest = c.args.store.now.forest in
    let wrong : FindsWrong files forest.body forest.schema c.args.store.now.dicts (Some c.in-Ok-Some.view)
    = subst (FindsWrong files forest.body forest.schema c.args.store.now.dicts) c.in-Ok-Some.field-0-is (c.in-Ok-Some.ensures.wrong files read) in
    named-view files forest.body forest.schema c.args.store.now.dicts forest.lawful forest.within c.in-Ok-Some.view c.no_view.result (λ t lt. (read.each t [] lt).keeps) wrong (c.no_view.ensures files read)
