use Rattle.std.proofs.Common.{rules, arith, ◌<◌, ℕ, Vec, Global, get_or, length, ◌∙◌}
use Rattle.std.proofs.Math.Seq.{map-set_same}
use Rattle.std.proofs.lemmas.List.{length-map, length-set}
use Rattle.point_groups.specs.Columns.{numbers_at}
use Rattle.point_groups.proofs.PutLists.{all-there, put-there}
use Rattle.point_groups.proofs.column.put_numbers.Goals as goal

pub loop-i-preserved : goal.loop-i-preserved
loop-i-preserved c =
    let lists = c.loop-i.lists in
    let place = c.args.place in
    let of = λ (k : ℕ) (l : Vec ℕ Global). get_or l.items k 0 in
    let i = c.loop-i.i in
    let was = c.index-lists-i.result in
    let now = c.put_number.new.numbers in
    let low : i < length lists = omega (arith, c.loop-i.invariant.long, c.loop-i-test.true) in
    record {
      long = length-set lists i now ∙ c.loop-i.invariant.long;
      there = put-there (of place) lists c.args.numbers.now i now 0 low c.in_ok-put_number.ensures.there c.loop-i.invariant.there;
      others = λ k other.
          map-set_same (of k) lists i now was (c.in_ok-put_number.ensures.others k other)
          ∙ c.loop-i.invariant.others k other;
    }

pub returns-clause-there : goal.returns-clause-there
returns-clause-there c =
    let of = λ (l : Vec ℕ Global). get_or l.items c.args.place 0 in
    all-there (numbers_at c.args.place c.loop-i.lists) c.args.numbers.now 8 0 (length-map c.loop-i.lists of ∙ c.loop-i.invariant.long) (search rules)
    (λ j low. c.loop-i.invariant.there j (omega (arith, low, c.loop-i-test.false)))

pub returns-clause-others : goal.returns-clause-others
returns-clause-others c = c.loop-i.invariant.others
