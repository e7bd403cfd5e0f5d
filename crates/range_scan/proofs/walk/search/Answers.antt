use Rattle.std.proofs.Common.{◌++◌, subst, arith}
use Rattle.std.specs.Prelude.{OnOk}
use Rattle.range_scan.proofs.Once.{visits-once}
use Rattle.range_scan.proofs.Packed.{packed-found, packed-searched}
use Rattle.range_scan.proofs.walk.search.Goals as goal

pub returns-clause-points : goal.returns-clause-points
returns-clause-points g c = λ tells agree points holds start es given.
    let found = packed-found c.args.tree.now c.requires.shape (omega (arith, c.requires.few)) c.args.region.now ((g.T.Site.disk c.args.site.now).files c.args.tree.now.file) points holds in
    subst (λ l. OnOk c.walk.result (g.G.Taker.was_given start (es ++ l) c.walk.new.taker)) found.finds (c.walk.ensures.gives tells agree start es given)

pub returns-clause-undamaged : goal.returns-clause-undamaged
returns-clause-undamaged g c = λ tells agree points holds. packed-searched c.args.tree.now c.requires.shape (omega (arith, c.requires.few)) c.args.region.now ((g.T.Site.disk c.args.site.now).files c.args.tree.now.file) points holds c.walk.result (c.walk.ensures.searched tells agree)

pub returns-clause-once : goal.returns-clause-once
returns-clause-once g c = λ tells points holds. visits-once c.args.tree.now c.requires.shape (omega (arith, c.requires.few)) c.args.region.now ((g.T.Site.disk c.args.site.now).files c.args.tree.now.file) points holds
