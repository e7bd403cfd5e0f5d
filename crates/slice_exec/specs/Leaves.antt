-- The leaves that a slice visits over accepted facts, if it binds only the last attribute of its view.
use Rattle.std.specs.Prelude.{◌≡◌, ◌≤◌, ◌==◌, ℕ, suc, true, List, [], get_or, length}
use Rattle.std.specs.List.{AllByRecursion}
use Rattle.cube_schema.specs.Kinds.{measure_count}
use Rattle.cube_schema.specs.declared.schema.Schema.{Schema}
use Rattle.fact_model.specs.declared.fact.Fact.{Fact}
use Rattle.fact_model.specs.declared.slice.Cond.{Cond}
use Rattle.fact_model.specs.declared.slice.Slice.{Slice}
use Rattle.fact_model.specs.Slice.{attr_of}
use Rattle.spec_points.specs.Points.{View}
use Rattle.page_fmt.specs.Trees.{room_of}
use Rattle.spec_forest.specs.Forest.{forest}
use Rattle.spec_leaves.specs.Leaves.{leaves_among, most_leaves}
use Rattle.replica_route.specs.Together.{matching}
use Rattle.slice_exec.specs.Costs.{tree_over, visits_over}

-- each condition is on the last attribute of the view
pub record BindsLast (view : View) (conds : List Cond) : Type 0 where
  pub last : ℕ
  pub long : length view ≡ suc last
  pub only : AllByRecursion (λ c. (attr_of c == get_or view last 0) ≡ true) conds

-- the leaves among the pages that the search visits in the forest of these facts in this format
abbrev pub leaf_visits : ℕ → Schema → List Fact → Slice → ℕ → List ℕ
leaf_visits format schema facts s view = leaves_among (tree_over format schema facts view) (forest format schema facts) (visits_over format schema facts s view)

-- the number of points of the view over these facts that meet the conditions
abbrev pub points_met : Schema → List Fact → Slice → ℕ → ℕ
points_met schema facts s view = length (matching (measure_count schema) (get_or schema.views view []) s.conds facts)

-- the number of points that a leaf of the view holds
abbrev pub leaf_capacity : ℕ → Schema → List Fact → ℕ → ℕ
leaf_capacity format schema facts view = room_of (tree_over format schema facts view).shape (length (get_or schema.views view []))

-- if only the last attribute of the view is bound, the leaves are few for the points that meet the conditions
abbrev pub HasFewLeaves : ℕ → Schema → List Fact → Slice → ℕ → Type 0
HasFewLeaves format schema facts s view =
    BindsLast (get_or schema.views view []) s.conds → length (leaf_visits format schema facts s view) ≤ most_leaves (points_met schema facts s view) (leaf_capacity format schema facts view)
