use Rattle.cube_slices.proofs.Names.{no_schema, sym, ap, ◌∙◌, refl, option_copied, Command, line, runs_out_as}
use Rattle.cube_slices.proofs.RollupAnswers.{schemaless}
use Rattle.cube_state.proofs.Carried.{says_with}
use Rattle.cube_slices.proofs.rolling.rollup.Goals as goal

pub returns-in_ok-plain-in-None : goal.returns-in_ok-plain-in-None
returns-in_ok-plain-in-None g c =
    let levels = c.args.levels.now in
    record {
      carried = says_with g.T.Site (Command.Rollup c.args.text.now) c.args.state.now c.args.site.now c.args.pages.now (λ t told files. g.met.T.Site.only_now c.args.site.now told files t) levels
          (line no_schema) c.in_ok-plain-in-None.field-0 c.requires.ready
          (schemaless g.T.Site levels c.args.site.now c.args.state.now c.args.text.now _ (sym c.store.ensures ∙ ap option_copied c.in-None.is) refl) c.in_ok-plain-in-None.ensures;
    }

pub returns-in_err-plain-in-None : goal.returns-in_err-plain-in-None
returns-in_err-plain-in-None g c = record {
  carried = runs_out_as g.T.Site (Command.Rollup c.args.text.now) c.args.state.now c.args.site.now c.args.pages.now (λ t told files. g.met.T.Site.only_now c.args.site.now told files t)
      c.requires.ready c.args.state.now c.from_residual.result c.from_residual.ensures.1 c.args.levels.now;
}

pub returns-in-Some : goal.returns-in-Some
returns-in-Some g c = record { carried = c.reply_to.ensures c.args.state.now (sym c.store.ensures ∙ ap option_copied c.in-Some.is) c.requires.ready }
