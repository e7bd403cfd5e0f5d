-- The bytes of a forest: the trees of a schema over facts, packed one after another.
use Rattle.std.specs.Prelude.{ℕ, ◌+◌, ◌-◌, List, [], ◌∷◌, ◌++◌, length, map, flat_map, replicate}
use Rattle.fact_model.specs.declared.fact.Fact.{Fact}
use Rattle.cube_point.specs.declared.point.Entry.{Entry}
use Rattle.spec_points.specs.Points.{View, points}
use Rattle.spec_points.specs.Entries.{entry_of}
use Rattle.cube_schema.specs.declared.schema.Schema.{Schema}
use Rattle.cube_schema.specs.Kinds.{measure_count}
use Rattle.select_map.specs.declared.mapping.Tree.{Tree}
use Rattle.select_map.specs.Trees.{views_of}
use Rattle.select_map.specs.Views.{selected}
use Rattle.forest_root.specs.Forest.{shape_of}
use Rattle.tree_pack.specs.Pages.{Views, joined, pages_of, page_bytes}

-- the points of a view over facts, as entries
abbrev pub view_entries : Schema → List Fact → View → List Entry
view_entries schema facts view = map entry_of (points (measure_count schema) view facts)

-- the views of a tree over facts, each with its arity
abbrev pub views_over : Schema → List Fact → Tree → Views
views_over schema facts tree = map (λ view. (length view, view_entries schema facts view)) (views_of schema.views tree)

-- the points of a tree over facts, as entries
abbrev pub tree_entries : Schema → List Fact → Tree → List Entry
tree_entries schema facts tree = joined (views_over schema facts tree)

-- how many pages of this format a tree has over facts
abbrev pub page_count : ℕ → Schema → List Fact → Tree → ℕ
page_count format schema facts tree = length (pages_of (shape_of format schema tree) 0 (views_over schema facts tree))

-- the bytes of a tree over facts in this format, whose first page has the given number
abbrev pub tree_bytes : ℕ → Schema → List Fact → ℕ → Tree → List ℕ
tree_bytes format schema facts first tree = flat_map (page_bytes (shape_of format schema tree)) (pages_of (shape_of format schema tree) first (views_over schema facts tree))

-- the bytes of trees one after another
abbrev pub trees_bytes : ℕ → Schema → List Fact → ℕ → List Tree → List ℕ
trees_bytes format schema facts first [] = []
trees_bytes format schema facts first (tree ∷ trees) = tree_bytes format schema facts first tree ++ trees_bytes format schema facts (first + page_count format schema facts tree) trees

-- the bytes of the forest in this format: all trees of the schema, from page 0 on
unfoldable pub forest : ℕ → Schema → List Fact → List ℕ
forest format schema facts = trees_bytes format schema facts 0 (selected schema.views).trees
