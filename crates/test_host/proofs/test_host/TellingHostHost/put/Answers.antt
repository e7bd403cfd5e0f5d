use Rattle.test_host.proofs.Taken.{Emits-part}
use Rattle.test_host.proofs.test_host.TellingHostHost.put.Goals as goal

pub returns-in_err-answered-clause-disk : goal.returns-in_err-answered-clause-disk
returns-in_err-answered-clause-disk g c = λ tells. Emits-part _ c.args.bytes.now (g.T.Site.disk c.args.self.now.site) (g.T.Site.disk c.emit.new.self) (c.emit.ensures.disk tells)

pub returns-clause-disk : goal.returns-clause-disk
returns-clause-disk g c = λ tells. Emits-part _ c.args.bytes.now (g.T.Site.disk c.args.self.now.site) (g.T.Site.disk c.emit.new.self) (c.emit.ensures.disk tells)
