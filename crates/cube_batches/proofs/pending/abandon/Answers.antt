use Rattle.script_lang.specs.declared.command.Command.TheVariants as says
use Rattle.cube_batches.proofs.Names.{runs_out_as}
use Rattle.cube_batches.proofs.{Calls.memory_as, Ends.abandons}
use Rattle.cube_batches.proofs.pending.abandon.Goals as goal

pub returns-in_err-reply : goal.returns-in_err-reply
returns-in_err-reply g c = record {
  carried = λ cache ready. runs_out_as g.T.Site says.Abandon c.args.state.now c.args.site.now cache (λ t told files. g.met.T.Site.only_now c.args.site.now told files t) ready c.args.state.now
      c.from_residual.result (memory_as c.from_residual.result c.in_err-reply.field-0.0 c.in_err-reply.ensures c.from_residual.ensures.1);
}

pub returns : goal.returns
returns g c = record {
  carried = abandons g.T.Site c.args.site.now (λ t told files. g.met.T.Site.only_now c.args.site.now told files t) c.in_ok-reply.reply c.args.state.now c.in_ok-reply.ensures c.drop_batch.new.state
      c.drop_batch.ensures;
}
