-- The points of a batch by given coordinates, one list for each fact.
use Rattle.std.specs.Prelude.{◌≡◌, ℕ, List, map, get_or}
use Rattle.fact_model.specs.declared.fact.Fact.{Fact}
use Rattle.fact_model.specs.Fact.{value_at}
use Rattle.fact_model.specs.Cell.{cell_of}
use Rattle.fact_model.specs.Groups.{groups}
use Rattle.cube_point.specs.Points.{point_cmp}
use Rattle.spec_points.specs.Points.{View, PlacedCell, Names, padded, coord}

-- a fact with its coordinates, one for each attribute
abbrev pub CodedFact : Type 0
CodedFact = List ℕ × Fact

-- the place in a view, by the given coordinates
abbrev pub place_in : View → CodedFact → List ℕ
place_in view p = padded (map (λ a. get_or p.0 a 0) view)

-- one point for each distinct place, in point order, with the cell of the facts of that place
abbrev pub delta_points : ℕ → View → List CodedFact → List PlacedCell
delta_points measures view pairs = groups point_cmp (place_in view) (λ ps. cell_of measures (map (λ (p : CodedFact). p.1) ps)) pairs

-- the given coordinates are those that the names give
abbrev pub CodedBy : Names → View → CodedFact → Type 0
CodedBy names view p = map (λ a. get_or p.0 a 0) view ≡ map (λ a. coord (names a) (value_at p.1 a)) view
