-- Rows with their points in a view.
use Rattle.std.specs.Prelude.{ℕ, List, [], get_or}
use Rattle.spec_points.specs.Points.{View}
use Rattle.delta_agg.specs.declared.placed.Placed.{Placed}
use Rattle.delta_agg.specs.Batch.{point_at}

-- a row with its point
abbrev pub placed_at : View → List (List ℕ) → ℕ → Placed
placed_at view coded row = record { point = point_at view (get_or coded row []); row = row }

-- the default past the end
abbrev pub no_placed : Placed
no_placed = record { point = record { arity = 0; at = [] }; row = 0 }
