use Rattle.std.proofs.Common.{rules, ◌≡◌, ◌+◌, drop, length, refl, ap}
use Rattle.page_entry.proofs.CellParts.{whole-join}
use Rattle.page_entry.proofs.cell.join_all.Goals as goal

pub returns-clause-joined : goal.returns-clause-joined
returns-clause-joined c = λ is. record {
  count = ap (λ n. c.args.cell.now.count + n) c.take_u64.ensures;
  measures = refl;
  parts = c.join_each.ensures.joined;
  past = c.join_each.ensures.past;
}

pub returns-clause-whole : goal.returns-clause-whole
returns-clause-whole c = λ ends is.
    let cell = c.args.cell.now in
    let own : length cell.parts ≡ 4 = search rules in
    whole-join cell _ (drop c.args.at c.args.bytes.now) c.requires.measures own c.join_each.ensures.four ends (returns-clause-joined c is)
