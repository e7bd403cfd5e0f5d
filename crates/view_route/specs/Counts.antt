-- The number of points of each view of a schema.
use Rattle.std.specs.Prelude.{ℕ, ◌-◌, List, ◌++◌, length, map, replicate}
use Rattle.fact_model.specs.declared.fact.Fact.{Fact}
use Rattle.spec_points.specs.Points.{points}
use Rattle.cube_schema.specs.declared.schema.Schema.{Schema}
use Rattle.cube_schema.specs.Kinds.{measure_count}

-- the number of points of each view, in order of declaration
abbrev pub view_counts : Schema → List Fact → List ℕ
view_counts schema facts = map (λ view. length (points (measure_count schema) view facts)) schema.views

-- the 32 numbers of points in a body, which are zero past the views
abbrev pub body_counts : Schema → List Fact → List ℕ
body_counts schema facts = view_counts schema facts ++ replicate (32 - length schema.views) 0
