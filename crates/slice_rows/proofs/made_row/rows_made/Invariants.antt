use Rattle.std.proofs.Common.{◌≡◌, map, take}
use Rattle.spec_points.specs.Answer.{row_from}
use Rattle.slice_rows.specs.Grouped.{keyed}
use Rattle.slice_rows.proofs.made_row.rows_made.Given as goal

-- the rows of the points passed
abbrev pub invariant-loop-place : goal.invariant-loop-place
invariant-loop-place l = l.rows ≡ map (row_from l.slice.columns) (map (keyed l.names l.view l.slice.group) (take l.place l.points))
