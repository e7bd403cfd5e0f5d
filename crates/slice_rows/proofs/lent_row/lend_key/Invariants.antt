use Rattle.std.proofs.Common.{get_or, ◌≡◌, map, take}
use Rattle.row_fold.specs.Lent.{value_of}
use Rattle.point_groups.specs.Bare.{nowhere}
use Rattle.slice_rows.specs.Grouped.{key_of_entry}
use Rattle.slice_rows.proofs.lent_row.lend_key.Given as goal

-- the values of the attributes passed
abbrev pub invariant-loop-attr : goal.invariant-loop-attr
invariant-loop-attr l = map value_of l.key.items ≡ key_of_entry l.names l.view (take l.attr-index l.group) (get_or l.points l.number nowhere)
