use Rattle.std.proofs.Common.{◌≡◌, map, take}
use Rattle.csv_text.specs.Rows.{row_fields, with_rows}
use Rattle.spec_points.specs.Answer.{row_from}
use Rattle.slice_rows.specs.Grouped.{keyed}
use Rattle.slice_rows.proofs.rows.push_rows.Given as goal

-- the rows of the points passed were written
abbrev pub invariant-loop-place : goal.invariant-loop-place
invariant-loop-place l =
    l.writer ≡ with_rows l.fn.writer (map row_fields (map (row_from l.slice.columns) (map (keyed l.names l.view l.slice.group) (take l.place l.points))))
