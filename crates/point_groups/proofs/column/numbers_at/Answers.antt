use Rattle.std.proofs.Common.{arith, ◌<◌, ℕ, List, Vec, Global, get_or, length, sym, ◌∙◌, ap}
use Rattle.std.proofs.lemmas.List.{get_or-map, length-map, length-set}
use Rattle.point_groups.specs.Columns.{numbers_at}
use Rattle.point_groups.proofs.PutLists.{all-there, set-there}
use Rattle.point_groups.proofs.column.numbers_at.Goals as goal

pub loop-i-preserved : goal.loop-i-preserved
loop-i-preserved c =
    let lists = c.args.lists.now in
    let place = c.args.place in
    let of = λ (l : Vec ℕ Global). get_or l.items place 0 in
    let i = c.loop-i.i in
    let low : i < length lists = omega (arith, c.type_inv.lists, c.loop-i-test.true) in
    let within : i < length c.loop-i.numbers = omega (arith, c.loop-i.invariant.long, c.loop-i-test.true) in
    let is = c.number_at.ensures ∙ (ap (λ (l : List ℕ). get_or l place 0) c.deref.ensures.value ∙ sym (get_or-map of lists i c.index-lists-i.result 0 low)) in
    record {
      long = length-set c.loop-i.numbers i c.number_at.result ∙ c.loop-i.invariant.long;
      passed = set-there c.loop-i.numbers (numbers_at place lists) i c.number_at.result 0 within is c.loop-i.invariant.passed;
    }

pub returns : goal.returns
returns c =
    let lists = c.args.lists.now in
    let of = λ (l : Vec ℕ Global). get_or l.items c.args.place 0 in
    all-there c.loop-i.numbers (numbers_at c.args.place lists) 8 0 c.loop-i.invariant.long (length-map lists of ∙ c.type_inv.lists)
    (λ j low. c.loop-i.invariant.passed j (omega (arith, low, c.loop-i-test.false)))
