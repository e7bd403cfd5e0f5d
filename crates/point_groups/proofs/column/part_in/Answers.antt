use Rattle.std.proofs.Common.{arith, [], List, Vec, Global, get_or, ap, sym, ◌∙◌}
use Rattle.std.proofs.Math.ListN.{get_or-eq_default}
use Rattle.std.proofs.lemmas.List.{get_or-map, length-map}
use Rattle.fact_model.specs.declared.cell.Part.{Part}
use Rattle.fact_model.specs.Cell.{part_of}
use Rattle.point_groups.specs.Columns.{parts_at}
use Rattle.point_groups.proofs.column.part_in.Goals as goal

pub returns-then-index-lt4 : goal.returns-then-index-lt4
returns-then-index-lt4 c =
    let lists = c.args.lists.now in
    let of = λ (l : Vec Part Global). get_or l.items c.args.place (part_of []) in
    c.part_at.ensures
    ∙ (ap (λ (l : List Part). get_or l c.args.place (part_of [])) c.deref.ensures.value
    ∙ sym (get_or-map of lists c.args.index c.index-lists-index.result (part_of []) (omega (arith, c.type_inv.lists, c.if-index-lt4.true))))

pub returns : goal.returns
returns c =
    let lists = c.args.lists.now in
    let of = λ (l : Vec Part Global). get_or l.items c.args.place (part_of []) in
    sym (get_or-eq_default (parts_at c.args.place lists) (part_of []) (omega (arith, c.if-index-lt4.false, c.type_inv.lists, length-map lists of)))
