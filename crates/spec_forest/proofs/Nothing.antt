-- A forest over no facts has no pages.
use Rattle.std.proofs.Common.{◌≡◌, ◌+◌, ◌++◌, ℕ, List, [], ◌∷◌, length, map, flat_map, refl, ap, ◌∙◌}
use Rattle.cube_point.specs.declared.point.Entry.{Entry}
use Rattle.cube_schema.specs.declared.schema.Schema.{Schema}
use Rattle.select_map.specs.declared.mapping.Tree.{Tree}
use Rattle.select_map.specs.Trees.{views_of}
use Rattle.select_map.specs.Views.{selected}
use Rattle.spec_points.specs.Points.{View}
use Rattle.spec_tree.specs.Runs.{top}
use Rattle.spec_tree.specs.Tree.{inner, laid, leaves}
use Rattle.page_fmt.specs.declared.page.Child.{Child}
use Rattle.page_fmt.specs.Trees.{fanout_of, room_of}
use Rattle.forest_root.specs.Forest.{shape_of}
use Rattle.tree_pack.specs.Pages.{child_of, page_bytes}
use Rattle.spec_forest.specs.Forest.{forest, page_count, tree_bytes, trees_bytes, view_entries}

module _ (format : ℕ) (schema : Schema) where
  no-leaves : (room : ℕ → ℕ) (views : List View) → leaves {E = Entry} {C = Child} room (map (λ view. (length view, view_entries schema [] view)) views) ≡ []
  no-leaves room [] = refl
  no-leaves room (v ∷ vs) = no-leaves room vs

  no-tree : (first : ℕ) (tree : Tree) → tree_bytes format schema [] first tree ≡ []
  no-tree first tree =
      ap (λ ns. flat_map (page_bytes (shape_of format schema tree)) (laid first (top (fanout_of (shape_of format schema tree)) (inner child_of) 11 ns))) (no-leaves (room_of (shape_of format schema tree)) (views_of schema.views tree))

  no-trees : (first : ℕ) (trees : List Tree) → trees_bytes format schema [] first trees ≡ []
  no-trees first [] = refl
  no-trees first (tree ∷ trees) = ap (λ bytes. bytes ++ trees_bytes format schema [] (first + page_count format schema [] tree) trees) (no-tree first tree) ∙ no-trees (first + page_count format schema [] tree) trees

  -- so it has no bytes
  pub no-forest : forest format schema [] ≡ []
  unfolding forest
  no-forest = no-trees 0 (selected schema.views).trees
