use Rattle.cube_slices.proofs.Names.{refl, Err, Command, runs_out_as, only_replies}
use Rattle.cube_slices.proofs.QueryAnswers.{unasked}
use Rattle.reply_text.specs.Replies.{query_text}
use Rattle.cube_slices.proofs.querying.reply_to.Goals as goal

pub returns-in_ok-refused_query-in-Err : goal.returns-in_ok-refused_query-in-Err
returns-in_ok-refused_query-in-Err g c =
    let refusal = c.in-Err.refusal in
    let read = c.in-Err.ensures.exact c.in_ok-refused_query-in-Err.ensures.refused in
    λ state has ready. only_replies g.T.Site (Command.Sql c.args.text.now) state c.args.site.now c.args.pages.now (λ t told files. g.met.T.Site.only_now c.args.site.now told files t)
    (query_text refusal) c.in_ok-refused_query-in-Err.field-0 ready
    (unasked g.T.Site c.args.site.now state c.args.text.now (query_text refusal) c.args.store.now (Err refusal) has read refl (λ facts. refl) (λ files. refl)) c.in_ok-refused_query-in-Err.ensures.text

pub returns-in_err-refused_query-in-Err : goal.returns-in_err-refused_query-in-Err
returns-in_err-refused_query-in-Err g c =
    λ state has ready. runs_out_as g.T.Site (Command.Sql c.args.text.now) state c.args.site.now c.args.pages.now (λ t told files. g.met.T.Site.only_now c.args.site.now told files t)
    ready state c.from_residual.result c.from_residual.ensures.1
