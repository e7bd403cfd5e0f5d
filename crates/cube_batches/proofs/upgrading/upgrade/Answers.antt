use Rattle.script_lang.specs.declared.command.Command.TheVariants as says
use Rattle.cube_batches.proofs.Names.{CarriesOut, CarriesOutAlone, State, arith, subst, sym}
use Rattle.cube_batches.proofs.Upgrades.{has_upgraded, refuses_busy, refuses_none}
use Rattle.cube_batches.proofs.upgrading.upgrade.Goals as goal

pub returns-in-Empty : goal.returns-in-Empty
returns-in-Empty g c = record {
  carried = subst (λ (s : State). CarriesOutAlone g.T.Site says.Upgrade s s c.args.site.now c.args.site.now c.reply.result) (sym c.in-Empty.is)
      (refuses_none g.T.Site c.args.site.now (λ t told files. g.met.T.Site.only_now c.args.site.now told files t) c.reply.result c.reply.ensures) c.args.pages.now c.requires.ready;
}

pub returns-in-Hollow : goal.returns-in-Hollow
returns-in-Hollow g c = record {
  carried = refuses_busy g.T.Site c.args.site.now (λ t told files. g.met.T.Site.only_now c.args.site.now told files t) c.args.state.now c.in-Hollow.is c.reply-in-Hollow.result c.reply-in-Hollow.ensures
      c.args.pages.now c.requires.ready;
}

pub returns-then-store-ge-WIDE : goal.returns-then-store-ge-WIDE
returns-then-store-ge-WIDE g c = record {
  carried = subst (λ (s : State). CarriesOutAlone g.T.Site says.Upgrade s s c.args.site.now c.args.site.now c.reply-then-store-ge-WIDE.result) (sym c.in-Idle.is)
      (has_upgraded g.T.Site c.args.site.now (λ t told files. g.met.T.Site.only_now c.args.site.now told files t) c.in-Idle.store (λ low. absurd (omega (arith, low, c.if-store-ge-WIDE.true)))
      c.reply-then-store-ge-WIDE.result c.reply-then-store-ge-WIDE.ensures) c.args.pages.now c.requires.ready;
}

pub returns : goal.returns
returns g c = record {
  carried = subst (λ (s : State). CarriesOut g.T.Site says.Upgrade s c.remake.new.state c.args.site.now c.remake.new.site c.args.pages.now c.remake.new.pages c.remake.result) (sym c.take_store-store.ensures)
      c.remake.ensures.carried;
}
