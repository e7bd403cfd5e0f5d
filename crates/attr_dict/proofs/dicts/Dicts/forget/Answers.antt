use Rattle.attr_dict.proofs.Kept.{book-cut}
use Rattle.attr_dict.proofs.dicts.Dicts.forget.Goals as goal

pub invariant_of-self : goal.invariant_of-self
invariant_of-self c = book-cut c.self.inside.kinds.items c.self.inside.names.items c.cut.new.names.items c.args.lengths.now.at c.self.invariant c.cut.ensures.same c.cut.ensures.cut
