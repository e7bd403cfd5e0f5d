use Rattle.cube_slices.proofs.Names.{◌∙◌, ap, refl, Err, Command, Schema, runs_out_as, slice_of, slice_text, subst, sym}
use Rattle.cube_slices.proofs.RollupAnswers.{unasked}
use Rattle.cube_state.proofs.Carried.{says_with}
use Rattle.slice_lang.specs.Agreeing.{SliceAgrees}
use Rattle.cube_slices.proofs.rolling.reply_to.Goals as goal

pub returns-in_err-schema : goal.returns-in_err-schema
returns-in_err-schema g c = λ state has ready. runs_out_as g.T.Site (Command.Rollup c.args.text.now) state c.args.site.now c.args.pages.now (λ t told files. g.met.T.Site.only_now c.args.site.now told files t)
    ready state c.from_residual.result c.from_residual.ensures.1 c.args.levels.now

pub rolled-requires-clause-agrees : goal.rolled-requires-clause-agrees
rolled-requires-clause-agrees g c = subst (λ (s : Schema). SliceAgrees s c.in-Ok.slice) c.in_ok-schema.ensures.extended c.in-Ok.ensures.lawful

pub returns-in_err-refused_slice-in-Err : goal.returns-in_err-refused_slice-in-Err
returns-in_err-refused_slice-in-Err g c = λ state has ready. runs_out_as g.T.Site (Command.Rollup c.args.text.now) state c.args.site.now c.args.pages.now (λ t told files. g.met.T.Site.only_now c.args.site.now told files t)
    ready state c.from_residual-in_err-refused_slice-in-Err.result c.from_residual-in_err-refused_slice-in-Err.ensures.1 c.args.levels.now

pub returns : goal.returns
returns g c =
    let refusal = c.in-Err.refusal in
    let levels = c.args.levels.now in
    λ state has ready. says_with g.T.Site (Command.Rollup c.args.text.now) state c.args.site.now c.args.pages.now (λ t told files. g.met.T.Site.only_now c.args.site.now told files t) levels
    (slice_text refusal) c.in_ok-refused_slice-in-Err.field-0 ready
    (unasked g.T.Site levels c.args.site.now state c.args.text.now (slice_text refusal) c.args.store.now (Err refusal) has
    (ap (λ (s : Schema). slice_of s c.args.text.now) (sym c.in_ok-schema.ensures.extended) ∙ c.in-Err.ensures.exact c.in_ok-refused_slice-in-Err.ensures.refused) refl (λ facts. refl) (λ files. refl)) c.in_ok-refused_slice-in-Err.ensures.text
