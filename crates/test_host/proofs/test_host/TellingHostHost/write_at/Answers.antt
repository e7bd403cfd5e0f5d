use Rattle.std.proofs.Common.{arith, rules, length, length-take, subst, Bool, true, false, IsTrue, ◌<◌}
use Rattle.std.proofs.lemmas.List.{get_or-set_same}
use Rattle.site_core.specs.Silent.{no_left}
use Rattle.test_host.proofs.Taken.{Writes-absent, Writes-part, kept-nothing}
use Rattle.test_host.proofs.test_host.TellingHostHost.write_at.Goals as goal

pub invariant_of-self-clause-honest : goal.invariant_of-self-clause-honest
invariant_of-self-clause-honest g c = λ tells all.
    let here : c.args.file < length c.args.self.now.synced = search rules in
    no_left (subst (λ (b : Bool). IsTrue b) (get_or-set_same c.args.self.now.synced c.args.file false true here) (all c.args.file c.requires.file))

pub invariant_of-self-clause-absent : goal.invariant_of-self-clause-absent
invariant_of-self-clause-absent g c = λ tells.
    Writes-absent c.args.file c.args.at _ c.args.self.now.is_there (g.T.Site.disk c.args.self.now.site) (g.T.Site.disk c.write.new.self) c.requires.open (c.write.ensures.disk tells) (c.args.self.now.absent tells)

pub invariant_of-self-clause-nothing : goal.invariant_of-self-clause-nothing
invariant_of-self-clause-nothing g c = kept-nothing c.args.file c.args.self.now.is_there c.args.self.now.synced c.requires.open c.args.self.now.nothing

pub returns-clause-disk : goal.returns-clause-disk
returns-clause-disk g c = λ tells.
    Writes-part c.args.file c.args.at _ c.args.bytes.now (g.T.Site.disk c.args.self.now.site) (g.T.Site.disk c.write.new.self)
    (omega (arith, length-take c.min-count.result c.args.bytes.now)) (c.write.ensures.disk tells)

pub returns-in_err-answered-clause-disk : goal.returns-in_err-answered-clause-disk
returns-in_err-answered-clause-disk g c = λ tells.
    Writes-part c.args.file c.args.at _ c.args.bytes.now (g.T.Site.disk c.args.self.now.site) (g.T.Site.disk c.write.new.self)
    (omega (arith, length-take c.min-count.result c.args.bytes.now)) (c.write.ensures.disk tells)
