use Rattle.cube_slices.proofs.Names.{Command, runs_out_as}
use Rattle.cube_slices.proofs.RollupAnswers.{formed, tells}
use Rattle.cube_slices.proofs.rolling.rolled.Goals as goal

pub returns-in_err-base : goal.returns-in_err-base
returns-in_err-base g c = λ state has ready. runs_out_as g.T.Site (Command.Rollup c.args.text.now) state c.args.site.now c.args.pages.now (λ t told files. g.met.T.Site.only_now c.args.site.now told files t)
    ready state c.from_residual.result c.from_residual.ensures.1 c.args.levels.now

pub told-requires-clause-form : goal.told-requires-clause-form
told-requires-clause-form g c = formed c.args.store.now c.in_ok-base.base _ c.answer_picked.result c.in_ok-base.ensures.base c.answer_picked.ensures.answers.form

pub returns : goal.returns
returns g c =
    let its = c.answer_picked in
    let base = c.in_ok-base in
    λ state has ready. tells g.T.Site c.args.levels.now c.args.site.now its.new.site state c.args.store.now c.args.pages.now its.new.pages c.args.text.now c.args.slice.now base.base has
    c.requires.read c.requires.fit c.requires.agrees base.ensures.base base.ensures.agrees ready (λ t told files. g.met.T.Site.only_now c.args.site.now told files t) its.result its.ensures.answers c.told.result c.told.ensures
