use Rattle.merge_pack.proofs.Running.{move-built, move-builds}
use Rattle.merge_pack.proofs.merge.Merge.step.Goals as goal

pub returns-clause-builds : goal.returns-clause-builds
returns-clause-builds g c = λ tells apart.
    let step = c.step_by.ensures in
    move-builds (g.T.Site.disk c.args.site.now).files (g.T.Site.disk c.step_by.new.site).files c.args.self.now c.step_by.new.self c.args.delta.now g.T.Site.tells tells apart c.requires.safe (c.requires.place tells)
    c.step_by.result step.steps (step.files tells) step.long

pub returns-clause-built : goal.returns-clause-built
returns-clause-built g c = λ tells apart.
    let step = c.step_by.ensures in
    move-built (g.T.Site.disk c.args.site.now).files (g.T.Site.disk c.step_by.new.site).files c.args.self.now c.step_by.new.self c.args.delta.now g.T.Site.tells tells apart c.requires.safe (c.requires.place tells)
    c.step_by.result step.steps (step.files tells) step.long step.safe
