use Rattle.std.proofs.Common.{length, ap, sym, ◌∙◌}
use Rattle.cube_point.specs.declared.point.Entry.{Entry}
use Rattle.page_entry.proofs.Lent.{eight-coordinates}
use Rattle.page_entry.proofs.coded.Coded.arity.Goals as goal

pub returns-clause-eight : goal.returns-clause-eight
returns-clause-eight c =
    let s = c.self.inside in
    ap (λ (e : Entry). length e.point.at) (sym c.self.view_is) ∙ eight-coordinates s.shape.wide s.arity s.bytes.now c.self.invariant.arity
