use Rattle.script_lang.specs.declared.command.Command.TheVariants as says
use Rattle.cube_batches.proofs.Names.{◌≡◌, CarriesOutAlone, Ok, Pending, Reply, State, at_error, codes, pending_line, refresh_stop, runs_out_as, subst, sym}
use Rattle.cube_batches.proofs.{Calls.memory_as, Ends.moves_not, Ends.moves_on, Ends.steps_none}
use Rattle.cube_batches.proofs.pending.step.Goals as goal

pub returns-in_err-reply : goal.returns-in_err-reply
returns-in_err-reply g c = record {
  carried = λ cache ready. runs_out_as g.T.Site (says.Step c.args.moves) c.args.state.now c.args.site.now cache (λ t told files. g.met.T.Site.only_now c.args.site.now told files t) ready c.args.state.now
      c.from_residual.result (memory_as c.from_residual.result c.in_err-reply.field-0.0 c.in_err-reply.ensures c.from_residual.ensures.1);
}

pub returns-in_default : goal.returns-in_default
returns-in_default g c = record {
  carried = steps_none g.T.Site c.args.moves c.args.site.now (λ t told files. g.met.T.Site.only_now c.args.site.now told files t) c.in_ok-reply.reply c.args.state.now c.in_default.not-Pending
      c.in_ok-reply.ensures;
}

pub returns-in_err-step : goal.returns-in_err-step
returns-in_err-step g c =
    let is = c.in_err-step.ensures in
    let ends = λ (s : State) (result : Reply). CarriesOutAlone g.T.Site (says.Step c.args.moves) s (Pending c.step.new.self) c.args.site.now c.step.new.site result in
    record {
      carried = subst (λ (s : State). ends s c.from_residual-in_err-step.result) (sym c.in-Pending.is)
          (at_error (ends (Pending c.in-Pending.refresh)) (refresh_stop c.in_err-step.field-0.0) c.from_residual-in_err-step.result c.from_residual-in_err-step.ensures.1
          (moves_not g.T.Site c.args.moves c.in-Pending.refresh c.step.new.self c.args.site.now c.step.new.site c.in_err-step.field-0.0
          is.steps (Pending c.step.new.self)));
    }

pub returns : goal.returns
returns g c =
    let is = c.in_ok-step.ensures in
    record {
      carried = subst (λ (s : State). c.in_ok-reply.reply.items ≡ pending_line s (codes "stepped")
          → CarriesOutAlone g.T.Site (says.Step c.args.moves) s (Pending c.step.new.self) c.args.site.now c.step.new.site (Ok c.in_ok-reply.reply)) (sym c.in-Pending.is)
          (moves_on g.T.Site c.args.moves c.in-Pending.refresh c.step.new.self c.args.site.now c.step.new.site c.in_ok-step.field-0
          is.steps is.same is.goes is.ready c.in_ok-reply.reply)
          c.in_ok-reply.ensures;
    }
