use Rattle.std.proofs.Common.{get_or, ◌≡◌, map, take}
use Rattle.csv_text.specs.Rows.{value_text, with_fields}
use Rattle.point_groups.specs.Bare.{nowhere}
use Rattle.slice_rows.specs.Grouped.{key_of_entry}
use Rattle.slice_rows.proofs.rows.push_key.Given as goal

-- the values of the attributes passed were appended
abbrev pub invariant-loop-attr : goal.invariant-loop-attr
invariant-loop-attr l = l.writer ≡ with_fields l.fn.writer (map value_text (key_of_entry l.names l.view (take l.attr-index l.group) (get_or l.points l.number nowhere)))
