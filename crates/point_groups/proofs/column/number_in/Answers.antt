use Rattle.std.proofs.Common.{arith, ℕ, List, Vec, Global, get_or, ap, sym, ◌∙◌}
use Rattle.std.proofs.Math.ListN.{get_or-eq_default}
use Rattle.std.proofs.lemmas.List.{get_or-map, length-map}
use Rattle.point_groups.specs.Columns.{numbers_at}
use Rattle.point_groups.proofs.column.number_in.Goals as goal

pub returns-then-index-lt8 : goal.returns-then-index-lt8
returns-then-index-lt8 c =
    let lists = c.args.lists.now in
    let of = λ (l : Vec ℕ Global). get_or l.items c.args.place 0 in
    c.number_at.ensures
    ∙ (ap (λ (l : List ℕ). get_or l c.args.place 0) c.deref.ensures.value
    ∙ sym (get_or-map of lists c.args.index c.index-lists-index.result 0 (omega (arith, c.type_inv.lists, c.if-index-lt8.true))))

pub returns : goal.returns
returns c =
    let lists = c.args.lists.now in
    let of = λ (l : Vec ℕ Global). get_or l.items c.args.place 0 in
    sym (get_or-eq_default (numbers_at c.args.place lists) 0 (omega (arith, c.if-index-lt8.false, c.type_inv.lists, length-map lists of)))
