use Rattle.std.proofs.Common.{sym, ap, ◌∙◌, not}
use Rattle.std.proofs.lemmas.Bool.{cond-true, cond-false}
use Rattle.attr_dict.proofs.Places.{coded-known, uncoded-new}
use Rattle.attr_dict.proofs.names.Names.admit.Goals as goal

pub returns-in-Some-clause-names : goal.returns-in-Some-clause-names
returns-in-Some-clause-names c = sym (cond-true _ c.args.self.now _ (coded-known c.args.text.now c.args.self.now c.in-Some.code c.in-Some.ensures))

pub returns-in-Some-clause-fresh : goal.returns-in-Some-clause-fresh
returns-in-Some-clause-fresh c = sym (ap not (coded-known c.args.text.now c.args.self.now c.in-Some.code c.in-Some.ensures))

pub add-requires : goal.add-requires
add-requires c = uncoded-new c.args.text.now c.args.self.now c.in-None.ensures

pub returns-in_ok-add-in-None-clause-names : goal.returns-in_ok-add-in-None-clause-names
returns-in_ok-add-in-None-clause-names c = c.in_ok-add-in-None.ensures.names ∙ sym (cond-false _ c.args.self.now _ (uncoded-new c.args.text.now c.args.self.now c.in-None.ensures))

pub returns-in_ok-add-in-None-clause-fresh : goal.returns-in_ok-add-in-None-clause-fresh
returns-in_ok-add-in-None-clause-fresh c = sym (ap not (uncoded-new c.args.text.now c.args.self.now c.in-None.ensures))
