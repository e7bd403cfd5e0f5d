-- The points of a view over a list of facts, and those of a tree of views.
use Rattle.std.specs.Prelude.{ℕ, ◌-◌, ◌<◌, ◌≤◌, List, [], ◌∷◌, ◌++◌, map, flat_map, length, replicate, unwrap_or}
use Rattle.fact_model.specs.declared.fact.Value.{Value}
use Rattle.fact_model.specs.declared.fact.Fact.{Fact}
use Rattle.fact_model.specs.declared.cell.Cell.{Cell}
use Rattle.fact_model.specs.Fact.{value_at}
use Rattle.fact_model.specs.Cell.{cell_of}
use Rattle.fact_model.specs.Groups.{groups}
use Rattle.cube_point.specs.Points.{point_cmp}
use Rattle.spec_points.specs.Codes.{Text, code_in, names_of}

-- a view is the attributes whose codes make a place, in order
abbrev pub View : Type 0
View = List ℕ

-- a point is a place of eight coordinates with the cell of its facts
abbrev pub PlacedCell : Type 0
PlacedCell = List ℕ × Cell

-- eight coordinates, the unused ones zero
abbrev pub padded : List ℕ → List ℕ
padded codes = codes ++ replicate (8 - length codes) 0

-- the names of each attribute
abbrev pub Names : Type 0
Names = ℕ → List Text

-- the code of a value; 0 if it has none
abbrev pub coord : List Text → Value → ℕ
coord names v = unwrap_or (code_in names v) 0

-- the place of a fact in a view: the codes of the view's attributes
abbrev pub place_of : Names → View → Fact → List ℕ
place_of names view x = padded (map (λ a. coord (names a) (value_at x a)) view)

-- one point for each distinct place, in point order, with the cell of the facts of that place
abbrev pub points_by : Names → ℕ → View → List Fact → List PlacedCell
points_by names measures view facts = groups point_cmp (place_of names view) (cell_of measures) facts

-- the points of a view, by the facts' own names
abbrev pub points : ℕ → View → List Fact → List PlacedCell
points measures view facts = points_by (names_of facts) measures view facts

-- the points of a tree's views, one view after another
abbrev pub tree_by : Names → ℕ → List View → List Fact → List PlacedCell
tree_by names measures views facts = flat_map (λ view. points_by names measures view facts) views

-- the points of a tree, by the facts' own names
abbrev pub tree_points : ℕ → List View → List Fact → List PlacedCell
tree_points measures views facts = tree_by (names_of facts) measures views facts

-- views of at most eight attributes, each with fewer than the next
abbrev pub Rises : List View → Type 0
Rises [] = Unit {0}
Rises (v ∷ []) = length v ≤ 8
Rises (v ∷ w ∷ views) = (length v < length w) × Rises (w ∷ views)
