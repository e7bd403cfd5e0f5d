use Rattle.cube_batches.proofs.Names.{CarriesOut, at_error, load_of}
use Rattle.cube_batches.proofs.{Loads.loads, Loads.loads_none, Sources.load_sends}
use Rattle.cube_batches.proofs.loading.load.Goals as goal

pub returns-in_err-reply : goal.returns-in_err-reply
returns-in_err-reply g c = record {
  carried = at_error (CarriesOut g.T.Site (load_of c.args.source) c.args.state.now c.take_in.new.state c.args.site.now c.take_in.new.site c.args.pages.now c.args.pages.now) c.in_err-reply.field-0.0
      c.from_residual.result c.from_residual.ensures.1 (c.in_err-reply.ensures.takes (load_of c.args.source) (load_sends c.args.source) c.args.pages.now c.requires.ready);
}

pub returns-in-Refused : goal.returns-in-Refused
returns-in-Refused g c = record { carried = (rw c.in-Refused.is at c.in_ok-reply.ensures.takes) (load_of c.args.source) (load_sends c.args.source) c.args.pages.now c.requires.ready }

pub returns-in-Empty : goal.returns-in-Empty
returns-in-Empty g c = record {
  carried = loads_none g.T.Site c.args.source c.args.state.now c.take_in.new.state c.args.site.now c.take_in.new.site (λ t told files. g.met.T.Site.only_now c.args.site.now told files t)
      (rw c.in-Empty.is at c.in_ok-reply.ensures.takes) c.acknowledge.result c.acknowledge.ensures c.args.pages.now c.requires.ready;
}

pub returns-in-Begun : goal.returns-in-Begun
returns-in-Begun g c = record {
  carried = c.commit.ensures.commits (load_of c.args.source) c.args.state.now c.args.site.now
      (loads g.T.Site c.args.source c.args.state.now c.args.site.now c.take_in.new.site c.in-Begun.refresh (rw c.in-Begun.is at c.in_ok-reply.ensures.takes));
}
