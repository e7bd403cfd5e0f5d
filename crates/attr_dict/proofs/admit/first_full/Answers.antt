use Rattle.std.proofs.Common.{sym, arith}
use Rattle.attr_dict.proofs.Fulls.{none-full, full-here}
use Rattle.attr_dict.proofs.admit.first_full.Goals as goal

pub returns : goal.returns
returns c = sym (none-full c.args.kinds.now c.args.names.now (λ a lt. c.loop-attr.invariant a (omega arith)))

pub returns-then-len-max_of : goal.returns-then-len-max_of
returns-then-len-max_of c =
    sym
    (full-here c.args.kinds.now c.args.names.now c.index-names-attr.result c.loop-attr.attr c.max_of.result c.len.result c.loop-attr-test.true c.requires.same c.loop-attr.invariant c.index-names-attr.is c.len.ensures
    c.max_of.ensures c.if-len-max_of.true)
