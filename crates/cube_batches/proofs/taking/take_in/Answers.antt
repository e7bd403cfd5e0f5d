use Rattle.cube_state.specs.declared.stop.Stop.TheVariants as stops
use Rattle.cube_batches.proofs.Names.{◌≡◌, Ok, Refused, RunsOn, State, TakesIn, arith, at_error, length, nat_tests, refl, subst, sym}
use Rattle.cube_batches.proofs.{Calls.memory_as, Takings.batch_given, Takings.busy_refuses, Takings.empty_given, Takings.empty_refuses, Takings.source_refuses, Takings.wants}
use Rattle.cube_batches.proofs.taking.take_in.Goals as goal

pub returns-in_err-reply : goal.returns-in_err-reply
returns-in_err-reply g c = record {
  takes = at_error (TakesIn g.T.Site c.args.source c.args.state.now c.args.state.now c.args.site.now c.args.site.now) stops.Memory c.from_residual.result
      (memory_as c.from_residual.result c.in_err-reply.field-0.0 c.in_err-reply.ensures.memory c.from_residual.ensures.1)
      (wants g.T.Site c.args.source c.args.state.now c.args.site.now (λ t told files. g.met.T.Site.only_now c.args.site.now told files t) c.args.state.now);
}

pub returns-in-Refused : goal.returns-in-Refused
returns-in-Refused g c = record {
  takes = subst (λ (s : State). TakesIn g.T.Site c.args.source s s c.args.site.now c.args.site.now (Ok (Refused c.in-Refused.reply))) (sym c.in-Idle.is)
      (source_refuses c.args.source c.in-Idle.store c.in_ok-reply.field-0 c.in_ok-reply.ensures.read g.T.Site c.args.site.now (λ t told files. g.met.T.Site.only_now c.args.site.now told files t)
      c.in-Refused.reply c.in-Refused.is);
}

pub returns-then-is_empty : goal.returns-then-is_empty
returns-then-is_empty g c =
    let none : length c.in-Batch.batch ≡ 0 = grind (arith, nat_tests) in
    let given = empty_given c.args.source c.in-Idle.store c.in_ok-reply.field-0 c.in_ok-reply.ensures.read c.in-Batch.batch c.in-Batch.number c.in-Batch.is none in
    record { takes = (c.in-Idle.store, c.in-Idle.is, refl, refl, given) }

pub start-requires : goal.start-requires
start-requires g c = record {
  runs = subst (RunsOn g.T.Site c.args.site.now) c.take_store-store.ensures c.requires.runs;
  some = grind (arith, nat_tests);
  fits = (batch_given c.args.source c.in-Idle.store c.in_ok-reply.field-0 c.in_ok-reply.ensures.read c.in-Batch.batch c.in-Batch.number c.in-Batch.is c.args.state.now c.take_store-store.result c.in-Idle.is
      c.take_store-store.ensures).1;
}

pub returns-else-is_empty : goal.returns-else-is_empty
returns-else-is_empty g c = record {
  takes = subst (λ (s : State). TakesIn g.T.Site c.args.source s c.start.new.state c.args.site.now c.start.new.site c.start.result) (sym c.take_store-store.ensures)
      (c.start.ensures.takes c.args.source (batch_given c.args.source c.in-Idle.store c.in_ok-reply.field-0 c.in_ok-reply.ensures.read c.in-Batch.batch c.in-Batch.number c.in-Batch.is c.args.state.now
      c.take_store-store.result c.in-Idle.is c.take_store-store.ensures).0);
}

pub returns-in-Empty : goal.returns-in-Empty
returns-in-Empty g c = record {
  takes = subst (λ (s : State). TakesIn g.T.Site c.args.source s s c.args.site.now c.args.site.now c.refused.result) (sym c.in-Empty.is)
      (empty_refuses g.T.Site c.args.source c.args.site.now (λ t told files. g.met.T.Site.only_now c.args.site.now told files t) c.refused.result c.refused.ensures);
}

pub returns-in-Hollow : goal.returns-in-Hollow
returns-in-Hollow g c = record {
  takes = busy_refuses g.T.Site c.args.source c.args.site.now (λ t told files. g.met.T.Site.only_now c.args.site.now told files t) c.args.state.now c.in-Hollow.is c.refused-in-Hollow.result
      c.refused-in-Hollow.ensures;
}
