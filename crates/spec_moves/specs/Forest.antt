-- The moves of a refresh that adds a batch to facts, over all trees of a schema: from pages of one format to pages of another, or the same.
use Rattle.std.specs.Prelude.{◌≡◌, ◌≤◌, ℕ, ◌*◌, List, [], ◌++◌, length, map, take}
use Rattle.fact_model.specs.declared.fact.Fact.{Fact}
use Rattle.cube_point.specs.declared.point.Entry.{Entry}
use Rattle.cube_schema.specs.declared.schema.Schema.{Schema}
use Rattle.spec_points.specs.Codes.{names_of}
use Rattle.select_map.specs.declared.mapping.Tree.{Tree}
use Rattle.select_map.specs.Views.{selected}
use Rattle.delta_agg.specs.Trees.{named_tree}
use Rattle.spec_tree.specs.Moves.{Move, written}
use Rattle.spec_tree.specs.Tree.{Leaf, Inner}
use Rattle.forest_root.specs.Forest.{shape_of}
use Rattle.tree_pack.specs.Pages.{PointPage, pages_of}
use Rattle.spec_forest.specs.Forest.{forest, views_over}
use Rattle.spec_moves.specs.Trees.{TreeMerge, all_moves}

-- the points on a page
abbrev pub points_on : PointPage → List Entry
points_on (Leaf entries) = entries
points_on (Inner children) = []

-- the points of a tree over facts, page by page of this format
abbrev pub old_pages : ℕ → Schema → List Fact → Tree → List (List Entry)
old_pages format schema facts tree = map points_on (pages_of (shape_of format schema tree) 0 (views_over schema facts tree))

-- a tree over facts on pages of the old format, merged with the points of a batch into one of the new format
abbrev pub merge_of : ℕ → ℕ → Schema → List Fact → List Fact → Tree → TreeMerge
merge_of old_format format schema facts batch tree = record {
  shape = shape_of format schema tree;
  old = old_pages old_format schema facts tree;
  new = named_tree (names_of (facts ++ batch)) schema batch tree;
  views = views_over schema (facts ++ batch) tree;
}

-- all trees of the schema
abbrev pub forest_merges : ℕ → ℕ → Schema → List Fact → List Fact → List TreeMerge
forest_merges old_format format schema facts batch = map (merge_of old_format format schema facts batch) (selected schema.views).trees

-- their moves, one tree after another
abbrev pub forest_moves : ℕ → ℕ → Schema → List Fact → List Fact → List Move
forest_moves old_format format schema facts batch = all_moves (forest_merges old_format format schema facts batch)

-- what stands on the new side after the first m moves: a page for each write among them
abbrev pub bytes_after : ℕ → ℕ → Schema → List Fact → List Fact → ℕ → List ℕ
bytes_after old_format format schema facts batch m = take (4096 * written m (forest_moves old_format format schema facts batch)) (forest format schema (facts ++ batch))

-- after so many moves the new side has so many pages, which are these bytes
pub record IsSoFar (old_format format : ℕ) (schema : Schema) (facts batch : List Fact) (m pages : ℕ) (bytes : List ℕ) : Type 0 where
  pub within : m ≤ length (forest_moves old_format format schema facts batch)
  pub number : written m (forest_moves old_format format schema facts batch) ≡ pages
  pub bytes_are : bytes ≡ bytes_after old_format format schema facts batch m
  pub long : length bytes ≡ 4096 * pages
