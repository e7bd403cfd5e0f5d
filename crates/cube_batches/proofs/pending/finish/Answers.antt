use Rattle.script_lang.specs.declared.command.Command.TheVariants as says
use Rattle.cube_batches.proofs.Names.{◌∙◌, CarriesOut, CarriesOutAlone, Hollow, Idle, Pending, SaysOnly, State, codes, committed_text, fact_count, line, subst, sym}
use Rattle.cube_batches.proofs.{Calls.or_out, Ends.finish_ends, Ends.finishes_hollow, Ends.finishes_none}
use Rattle.cube_batches.proofs.pending.finish.Goals as goal

pub returns-in-Pending : goal.returns-in-Pending
returns-in-Pending g c = record {
  carried = subst (λ (s : State). CarriesOut g.T.Site says.Finish s c.commit.new.state c.args.site.now c.commit.new.site c.args.pages.now c.commit.new.pages c.commit.result)
      (sym (sym c.replace-had.ensures.value ∙ c.in-Pending.is))
      (c.commit.ensures.commits says.Finish (Pending c.in-Pending.refresh) c.args.site.now (finish_ends g.T.Site c.in-Pending.refresh c.args.site.now));
}

pub returns-in-Hollow : goal.returns-in-Hollow
returns-in-Hollow g c = record {
  carried = subst (λ (s : State × State). SaysOnly (committed_text (fact_count s.1)) c.acknowledge.result → CarriesOutAlone g.T.Site says.Finish s.0 s.1 c.args.site.now c.args.site.now c.acknowledge.result)
      (λ i. (sym (sym c.replace-had.ensures.value ∙ c.in-Hollow.is) i, sym c.set.ensures i))
      (or_out g.T.Site says.Finish (Hollow c.in-Hollow.store) (Idle c.in-Hollow.store) c.args.site.now (λ t told files. g.met.T.Site.only_now c.args.site.now told files t)
      (committed_text c.in-Hollow.store.forest.body.facts)
      (λ reply. finishes_hollow g.T.Site c.args.site.now (λ t told files. g.met.T.Site.only_now c.args.site.now told files t) reply c.in-Hollow.store) c.acknowledge.result)
      c.acknowledge.ensures c.args.pages.now c.requires.ready;
}

pub returns-in_default : goal.returns-in_default
returns-in_default g c = record {
  carried = subst (λ (s : State). CarriesOutAlone g.T.Site says.Finish c.args.state.now s c.args.site.now c.args.site.now c.reply.result) (sym (c.set-in_default.ensures ∙ c.replace-had.ensures.value))
      (or_out g.T.Site says.Finish c.args.state.now c.args.state.now c.args.site.now (λ t told files. g.met.T.Site.only_now c.args.site.now told files t) (line (codes "refused nothing pending"))
      (λ reply. finishes_none g.T.Site c.args.site.now (λ t told files. g.met.T.Site.only_now c.args.site.now told files t) reply c.args.state.now
      (λ r same. c.in_default.not-Pending r (c.replace-had.ensures.value ∙ same)) (λ store same. c.in_default.not-Hollow store (c.replace-had.ensures.value ∙ same)))
      c.reply.result c.reply.ensures) c.args.pages.now c.requires.ready;
}
