-- Two lists of points, merged.
use Rattle.std.specs.Prelude.{List}
use Rattle.fact_model.specs.Cell.{join}
use Rattle.cube_point.specs.Points.{point_cmp}
use Rattle.row_fold.specs.Merge.{together}
use Rattle.spec_points.specs.Points.{PlacedCell}

-- two lists of points, merged in point order
abbrev pub merge_points : List PlacedCell → List PlacedCell → List PlacedCell
merge_points old new = together point_cmp join old new
