use Rattle.std.proofs.Common.{get_or, ◌≡◌, map, take}
use Rattle.spec_points.specs.Answer.{column_of}
use Rattle.point_groups.specs.Bare.{nowhere}
use Rattle.slice_rows.proofs.lent_row.lend_numbers.Given as goal

-- the columns passed
abbrev pub invariant-loop-column : goal.invariant-loop-column
invariant-loop-column l = l.numbers.items ≡ map (column_of (get_or l.points l.number nowhere).cell) (take l.column-index l.columns)
