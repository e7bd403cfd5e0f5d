use Rattle.std.proofs.Common.{get_or, ◌≡◌, take}
use Rattle.point_groups.specs.Bare.{nowhere}
use Rattle.slice_rows.specs.Grouped.{key_of_entry}
use Rattle.slice_rows.proofs.made_row.key_made.Given as goal

-- the values of the attributes passed
abbrev pub invariant-loop-attr : goal.invariant-loop-attr
invariant-loop-attr l = l.key.items ≡ key_of_entry l.names l.view (take l.attr-index l.group) (get_or l.points l.number nowhere)
