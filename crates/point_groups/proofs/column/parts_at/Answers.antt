use Rattle.std.proofs.Common.{arith, ◌<◌, List, [], Vec, Global, get_or, length, sym, ◌∙◌, ap}
use Rattle.std.proofs.lemmas.List.{get_or-map, length-map, length-set}
use Rattle.fact_model.specs.declared.cell.Part.{Part}
use Rattle.fact_model.specs.Cell.{part_of}
use Rattle.point_groups.specs.Columns.{parts_at}
use Rattle.point_groups.proofs.PutLists.{all-there, set-there}
use Rattle.point_groups.proofs.column.parts_at.Goals as goal

pub loop-i-preserved : goal.loop-i-preserved
loop-i-preserved c =
    let lists = c.args.lists.now in
    let place = c.args.place in
    let of = λ (l : Vec Part Global). get_or l.items place (part_of []) in
    let i = c.loop-i.i in
    let low : i < length lists = omega (arith, c.type_inv.lists, c.loop-i-test.true) in
    let within : i < length c.loop-i.parts = omega (arith, c.loop-i.invariant.long, c.loop-i-test.true) in
    let is = c.part_at.ensures ∙ (ap (λ (l : List Part). get_or l place (part_of [])) c.deref.ensures.value ∙ sym (get_or-map of lists i c.index-lists-i.result (part_of []) low)) in
    record {
      long = length-set c.loop-i.parts i c.part_at.result ∙ c.loop-i.invariant.long;
      passed = set-there c.loop-i.parts (parts_at place lists) i c.part_at.result (part_of []) within is c.loop-i.invariant.passed;
    }

pub returns : goal.returns
returns c =
    let lists = c.args.lists.now in
    let of = λ (l : Vec Part Global). get_or l.items c.args.place (part_of []) in
    all-there c.loop-i.parts (parts_at c.args.place lists) 4 (part_of []) c.loop-i.invariant.long (length-map lists of ∙ c.type_inv.lists)
    (λ j low. c.loop-i.invariant.passed j (omega (arith, low, c.loop-i-test.false)))
