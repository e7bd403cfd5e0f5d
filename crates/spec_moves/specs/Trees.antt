-- A refresh over trees one after another: its moves, and the bytes that it writes.
use Rattle.std.specs.Prelude.{ℕ, ◌+◌, List, [], ◌∷◌, ◌++◌, length, flat_map, sum_by}
use Rattle.std.specs.List.{All}
use Rattle.cube_point.specs.declared.point.Entry.{Entry}
use Rattle.cube_point.specs.declared.point.Shape.{Shape}
use Rattle.cube_point.specs.Points.{IsPoint}
use Rattle.spec_tree.specs.Moves.{Move}
use Rattle.page_fmt.specs.Writing.{IsShape}
use Rattle.delta_agg.specs.Joins.{merged_entries}
use Rattle.tree_pack.specs.Packing.{AreTreeViews}
use Rattle.tree_pack.specs.Pages.{Views, page_bytes, pages_of}
use Rattle.merge_pack.specs.Between.{moves_of, points_of}

-- a tree that is merged: the points of its old pages, the new points, and the views of both together
pub record TreeMerge : Type 0 where
  pub shape : Shape
  pub old : List (List Entry)
  pub new : List Entry
  pub views : Views

-- the views have the old and the new points
pub record IsTreeMerge (t : TreeMerge) : Type 0 where
  pub shape_is : IsShape t.shape
  pub are : AreTreeViews t.shape t.views (merged_entries (points_of t.old) t.new)
  pub old_points : All (λ e. IsPoint e.point) (points_of t.old)
  pub new_points : All (λ e. IsPoint e.point) t.new

-- how many pages the new tree has
abbrev pub total_of : TreeMerge → ℕ
total_of t = length (pages_of t.shape 0 t.views)

abbrev pub totals : List TreeMerge → ℕ
totals trees = sum_by total_of trees

-- its moves
abbrev pub moves_in : TreeMerge → List Move
moves_in t = moves_of t.shape (total_of t) t.old t.new

-- the moves of the trees, one tree after another
abbrev pub all_moves : List TreeMerge → List Move
all_moves trees = flat_map moves_in trees

-- the bytes of the new trees, one after another
abbrev pub all_bytes : ℕ → List TreeMerge → List ℕ
all_bytes first [] = []
all_bytes first (t ∷ trees) = flat_map (page_bytes t.shape) (pages_of t.shape first t.views) ++ all_bytes (first + total_of t) trees
