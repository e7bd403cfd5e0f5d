-- The old pages of a tree, as they are read from a file that keeps the forest over the facts.
use Rattle.std.proofs.Common.{◌≡◌, ◌≤◌, ◌<◌, ◌+◌, ◌^◌, ℕ, List, [], ◌∷◌, length, map, take, refl, ap, sym, ◌∙◌, arith, subst}
use Rattle.std.proofs.lemmas.List.{get_or-map, length-map}
use Rattle.std.proofs.lemmas.List.Sums.{sum_by-take-drop}
use Rattle.fact_model.specs.declared.fact.Fact.{Fact}
use Rattle.cube_point.specs.declared.point.Entry.{Entry}
use Rattle.cube_point.specs.declared.point.Shape.{Shape}
use Rattle.cube_schema.specs.declared.schema.Schema.{Schema}
use Rattle.cube_schema.specs.Lawful.{IsSchema}
use Rattle.cube_schema.specs.Kinds.{measure_count}
use Rattle.spec_points.specs.Codes.{names_of}
use Rattle.spec_forest.specs.Storable.{AreStorable}
use Rattle.select_map.specs.Views.{selected}
use Rattle.spec_tree.specs.Tree.{Leaf, Inner}
use Rattle.page_fmt.specs.Lawful.{IsLawful}
use Rattle.page_fmt.specs.Writing.{IsShape}
use Rattle.forest_root.specs.Forest.{pages_of, pages_of_all, shape_of}
use Rattle.tree_pack.specs.Lawful.{AreLawful, content_of}
use Rattle.tree_pack.specs.Packing.{max_first}
use Rattle.tree_pack.specs.Pages.{PointPage, pages_of as tree_pages_of}
use Rattle.tree_pack.proofs.Bytes.{each-lawful}
use Rattle.tree_scan.specs.Scanning.{entries_in, pages_in}
use Rattle.tree_scan.specs.Packed.{AreLawful as AreLawfulContents}
use Rattle.tree_scan.proofs.Packed.{packed-pages}
use Rattle.view_route.specs.Counts.{body_counts}
use Rattle.spec_forest.specs.Forest.{forest, views_over}
use Rattle.spec_forest.proofs.Bounds.{pages-within}
use Rattle.spec_forest.proofs.Bytes.{tree-lawful}
use Rattle.spec_forest.proofs.Scanned.{counts-few, few-views, tree-stands}
use Rattle.spec_forest.proofs.Selected.{pages-told, tree, tree-shape}
use Rattle.spec_moves.specs.Forest.{old_pages, points_on}
use Rattle.spec_moves.proofs.Places.{places-same}

contents-lawful : (shape : Shape) → IsShape shape → (first : ℕ) (pages : List PointPage) → AreLawful shape first pages → AreLawfulContents shape first (map content_of pages)
contents-lawful shape is first pages h i d lt =
    let low : i < length pages = omega (arith, lt, length-map pages content_of) in
    subst (IsLawful shape (first + i)) (sym (get_or-map content_of pages i (Leaf []) d low)) (each-lawful shape is first pages h i (Leaf []) low)

contents-points : (pages : List PointPage) → map entries_in (map content_of pages) ≡ map points_on pages
contents-points [] = refl
contents-points (Leaf es ∷ pages) = ap (λ (l : List (List Entry)). es ∷ l) (contents-points pages)
contents-points (Inner cs ∷ pages) = ap (λ (l : List (List Entry)). [] ∷ l) (contents-points pages)

module _ {format : ℕ} (schema : Schema) (lawful : IsSchema schema) (facts : List Fact) (storable : AreStorable format (names_of facts) (measure_count schema) facts) (t : ℕ) (lt : t < length (selected schema.views).trees) where
  abbrev pub first_page : ℕ
  first_page = pages_of_all format schema (body_counts schema facts) (take t (selected schema.views).trees)

  first-low : first_page ≤ max_first
  first-low =
      let all : pages_of_all format schema (body_counts schema facts) (selected schema.views).trees ≤ 2 ^ 50 = pages-within format schema lawful (body_counts schema facts) (counts-few schema facts storable.few) (few-views schema lawful) in
      omega (arith, all, sum_by-take-drop (pages_of format schema (body_counts schema facts)) (selected schema.views).trees t)

  -- page by page the file has the points of the old tree
  pub old-read : (bytes : List ℕ) → take (length (forest format schema facts)) bytes ≡ forest format schema facts
      → pages_in (shape_of format schema (tree schema lawful t)) bytes first_page (pages_of format schema (body_counts schema facts) (tree schema lawful t))
      ≡ old_pages format schema facts (tree schema lawful t)
  old-read bytes stands =
      let shape : Shape = shape_of format schema (tree schema lawful t) in
      let shape_is = tree-shape schema lawful format t lt in
      let pages : List PointPage = tree_pages_of shape first_page (views_over schema facts (tree schema lawful t)) in
      let count : length (map content_of pages) ≡ pages_of format schema (body_counts schema facts) (tree schema lawful t) = length-map pages content_of ∙ pages-told schema lawful facts storable t first_page lt in
      ap (pages_in shape bytes first_page) (sym count)
      ∙ (packed-pages shape shape_is.dims bytes first_page (map content_of pages)
      (contents-lawful shape shape_is first_page pages (tree-lawful schema lawful facts storable t first_page lt first-low))
      (tree-stands schema lawful facts storable t lt bytes stands)
      ∙ (contents-points pages ∙ places-same shape (views_over schema facts (tree schema lawful t)) first_page 0))
