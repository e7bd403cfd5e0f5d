use Rattle.std.proofs.Common.{◌≡◌, Ok, rules}
use Rattle.slice_lang.specs.Reading.{attr_in, name_of_group}
use Rattle.slice_lang.proofs.columns.read_name.Goals as goal

pub returns-then-not-is_empty : goal.returns-then-not-is_empty
unfolding name_of_group
returns-then-not-is_empty c =
    let read : attr_in c.args.schema.now c.args.part.now.end c.args.part.now.text ≡ Ok c.in_ok-named.named = cc c.in_ok-named.ensures.answer in
    rw read (search rules)

pub returns : goal.returns
unfolding name_of_group
returns c =
    let read : attr_in c.args.schema.now c.args.part.now.end c.args.part.now.text ≡ Ok c.in_ok-named.named = cc c.in_ok-named.ensures.answer in
    rw read (search rules)
