use Rattle.std.proofs.Common.{◌≡◌, [], drop}
use Rattle.slice_lang.specs.Answers.{gathered}
use Rattle.slice_lang.specs.Reading.{column_in}
use Rattle.slice_lang.proofs.columns.read_columns.Given as goal

-- the columns so far, with the items to come, give what all items give
abbrev pub invariant-loop-item : goal.invariant-loop-item
invariant-loop-item l = gathered (λ columns item. column_in l.schema item) l.columns (drop l.item-index l.item-items) ≡ gathered (λ columns item. column_in l.schema item) [] l.item-items
