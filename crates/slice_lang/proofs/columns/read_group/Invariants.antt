use Rattle.std.proofs.Common.{◌≡◌, [], drop}
use Rattle.slice_lang.specs.Answers.{gathered}
use Rattle.slice_lang.specs.Reading.{name_of_group}
use Rattle.slice_lang.proofs.columns.read_group.Given as goal

-- the attributes so far, with the items to come, give what all items give
abbrev pub invariant-loop-item : goal.invariant-loop-item
invariant-loop-item l = gathered (name_of_group l.schema) l.group (drop l.item-index l.item-items) ≡ gathered (name_of_group l.schema) [] l.item-items
