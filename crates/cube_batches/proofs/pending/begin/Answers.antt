use Rattle.script_lang.specs.declared.command.Command.TheVariants as says
use Rattle.cube_batches.proofs.Names.{CarriesOutAlone, at_error}
use Rattle.cube_batches.proofs.{Loads.begins_none, Loads.begins_on, Sources.begin_sends}
use Rattle.cube_batches.proofs.pending.begin.Goals as goal

pub returns-in_err-refusal : goal.returns-in_err-refusal
returns-in_err-refusal g c = record {
  carried = at_error (CarriesOutAlone g.T.Site (says.Begin c.args.block) c.args.state.now c.take_in.new.state c.args.site.now c.take_in.new.site) c.in_err-refusal.field-0.0 c.from_residual.result
      c.from_residual.ensures.1 (c.in_err-refusal.ensures.takes (says.Begin c.args.block) (begin_sends c.args.block));
}

pub returns-in-Refused : goal.returns-in-Refused
returns-in-Refused g c = record { carried = (rw c.in-Refused.is at c.in_ok-refusal.ensures.takes) (says.Begin c.args.block) (begin_sends c.args.block) }

pub returns-in-Empty : goal.returns-in-Empty
returns-in-Empty g c = record {
  carried = begins_none g.T.Site c.args.block c.args.state.now c.take_in.new.state c.hollow.new.state c.args.site.now c.take_in.new.site (λ t told files. g.met.T.Site.only_now c.args.site.now told files t)
      (rw c.in-Empty.is at c.in_ok-refusal.ensures.takes) c.hollow.ensures c.reply.result c.reply.ensures;
}

pub returns-in-Begun : goal.returns-in-Begun
returns-in-Begun g c = record {
  carried = begins_on g.T.Site c.args.block c.args.state.now c.set.new.self c.args.site.now c.take_in.new.site c.in-Begun.refresh (rw c.in-Begun.is at c.in_ok-refusal.ensures.takes) c.set.ensures
      c.reply-in-Begun.result c.reply-in-Begun.ensures;
}
