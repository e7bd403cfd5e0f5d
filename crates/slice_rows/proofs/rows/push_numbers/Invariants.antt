use Rattle.std.proofs.Common.{get_or, ◌≡◌, map, take}
use Rattle.std.specs.Fmt.{signed_decimal}
use Rattle.csv_text.specs.Rows.{with_fields}
use Rattle.spec_points.specs.Answer.{column_of}
use Rattle.point_groups.specs.Bare.{nowhere}
use Rattle.slice_rows.proofs.rows.push_numbers.Given as goal

-- the numbers of the columns passed were appended
abbrev pub invariant-loop-column : goal.invariant-loop-column
invariant-loop-column l = l.writer ≡ with_fields l.fn.writer (map signed_decimal (map (column_of (get_or l.points l.number nowhere).cell) (take l.column-index l.columns)))
