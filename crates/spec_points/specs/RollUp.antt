-- The points of a coarser view from those of a finer one.
use Rattle.std.specs.Prelude.{ℕ, List, map}
use Rattle.fact_model.specs.Groups.{groups}
use Rattle.cube_point.specs.Points.{point_cmp}
use Rattle.spec_points.specs.Points.{View, PlacedCell, padded}
use Rattle.spec_points.specs.Answer.{coordinate, joined}

-- the place in the coarser view
abbrev pub projected : View → View → List ℕ → List ℕ
projected fine coarse place = padded (map (coordinate fine place) coarse)

-- the finer view's points, grouped by their places in the coarser view, with their cells joined
abbrev pub rolled_up : View → View → List PlacedCell → List PlacedCell
rolled_up fine coarse entries = groups point_cmp (λ e. projected fine coarse e.0) joined entries
