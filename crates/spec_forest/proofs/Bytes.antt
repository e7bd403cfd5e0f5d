-- Where the pages of each tree stand among the bytes of the forest.
use Rattle.std.proofs.Common.{◌≡◌, ◌≤◌, ◌<◌, ◌+◌, ◌*◌, ℕ, suc, List, [], ◌∷◌, ◌++◌, length, flat_map, sum_by, refl, sym, ap, ◌∙◌, subst, arith, length-append, append_assoc, append-nil}
use Rattle.std.specs.List.{All}
use Rattle.std.proofs.lemmas.List.{get_or_default}
use Rattle.std.proofs.lemmas.List.Sums.{sum_by-cons}
use Rattle.fact_model.specs.declared.fact.Fact.{Fact}
use Rattle.cube_point.specs.declared.point.Entry.{Entry}
use Rattle.cube_point.specs.declared.point.Shape.{Shape}
use Rattle.cube_schema.specs.declared.schema.Schema.{Schema}
use Rattle.cube_schema.specs.Lawful.{IsSchema}
use Rattle.cube_schema.specs.Kinds.{measure_count}
use Rattle.spec_points.specs.Codes.{names_of}
use Rattle.spec_forest.specs.Storable.{AreStorable}
use Rattle.spec_tree.specs.Tree.{Page}
use Rattle.page_fmt.specs.declared.page.Child.{Child}
use Rattle.page_fmt.specs.Writing.{IsShape}
use Rattle.select_map.specs.declared.mapping.Tree.{Tree}
use Rattle.select_map.specs.Views.{selected}
use Rattle.select_map.specs.Selection.{no_tree}
use Rattle.forest_root.specs.Forest.{pages_of, pages_of_all, shape_of}
use Rattle.tree_pack.specs.Lawful.{AreLawful}
use Rattle.tree_pack.specs.Packing.{max_first}
use Rattle.tree_pack.specs.Pages.{page_bytes, pages_of as tree_pages_of}
use Rattle.tree_pack.proofs.Bytes.{each-long}
use Rattle.tree_pack.proofs.Lawful.{pages-lawful}
use Rattle.view_route.specs.Counts.{body_counts}
use Rattle.spec_forest.specs.Forest.{page_count, tree_bytes, tree_entries, trees_bytes, views_over}
use Rattle.spec_forest.proofs.Selected.{pages-told, tree, tree-shape, tree-views}

-- lawful pages have 4,096 bytes each
pub pages-long : (shape : Shape) → IsShape shape → (first : ℕ) (pages : List (Page Entry Child)) → AreLawful shape first pages → length (flat_map (page_bytes shape) pages) ≡ 4096 * length pages
pages-long shape is first [] h = refl
pages-long shape is first (page ∷ pages) h =
    omega (arith, each-long shape is first (page ∷ pages) h 0 page (omega arith), pages-long shape is (first + 1) pages h.1, length-append (page_bytes shape page) (flat_map (page_bytes shape) pages))

module _ (format : ℕ) (schema : Schema) (facts : List Fact) where
  -- one tree more
  pub trees-snoc : (first : ℕ) (ts : List Tree) (t : Tree)
      → trees_bytes format schema facts first (ts ++ t ∷ []) ≡ trees_bytes format schema facts first ts ++ tree_bytes format schema facts (first + sum_by (page_count format schema facts) ts) t
  trees-snoc first [] t = append-nil (tree_bytes format schema facts first t) ∙ ap (λ n. tree_bytes format schema facts n t) (omega arith)
  trees-snoc first (s ∷ ts) t =
      let next : first + page_count format schema facts s + sum_by (page_count format schema facts) ts ≡ first + sum_by (page_count format schema facts) (s ∷ ts) = omega (arith, sum_by-cons (page_count format schema facts) s ts) in
      ap (λ r. tree_bytes format schema facts first s ++ r) (trees-snoc (first + page_count format schema facts s) ts t)
      ∙ (sym (append_assoc (tree_bytes format schema facts first s) (trees_bytes format schema facts (first + page_count format schema facts s) ts) (tree_bytes format schema facts (first + page_count format schema facts s + sum_by (page_count format schema facts) ts) t))
      ∙ ap (λ n. trees_bytes format schema facts first (s ∷ ts) ++ tree_bytes format schema facts n t) next)

  -- some trees and the others
  pub trees-append : (first : ℕ) (ss ts : List Tree)
      → trees_bytes format schema facts first (ss ++ ts) ≡ trees_bytes format schema facts first ss ++ trees_bytes format schema facts (first + sum_by (page_count format schema facts) ss) ts
  trees-append first [] ts = ap (λ n. trees_bytes format schema facts n ts) (omega arith)
  trees-append first (s ∷ ss) ts =
      let next : first + page_count format schema facts s + sum_by (page_count format schema facts) ss ≡ first + sum_by (page_count format schema facts) (s ∷ ss) = omega (arith, sum_by-cons (page_count format schema facts) s ss) in
      ap (λ r. tree_bytes format schema facts first s ++ r) (trees-append (first + page_count format schema facts s) ss ts)
      ∙ (sym (append_assoc (tree_bytes format schema facts first s) (trees_bytes format schema facts (first + page_count format schema facts s) ss) (trees_bytes format schema facts (first + page_count format schema facts s + sum_by (page_count format schema facts) ss) ts))
      ∙ ap (λ n. trees_bytes format schema facts first (s ∷ ss) ++ trees_bytes format schema facts n ts) next)

module _ {format : ℕ} (schema : Schema) (lawful : IsSchema schema) (facts : List Fact) (storable : AreStorable format (names_of facts) (measure_count schema) facts) where
  abbrev trees : List Tree
  trees = (selected schema.views).trees

  -- a tree has its pages, whatever its first page
  abbrev pub IsLong : Tree → Type 0
  IsLong t = (page_count format schema facts t ≡ pages_of format schema (body_counts schema facts) t)
      × ((first : ℕ) → first ≤ max_first → length (tree_bytes format schema facts first t) ≡ 4096 * pages_of format schema (body_counts schema facts) t)

  pub tree-lawful : (t first : ℕ) → t < length trees → first ≤ max_first → AreLawful (shape_of format schema (tree schema lawful t)) first (tree_pages_of (shape_of format schema (tree schema lawful t)) first (views_over schema facts (tree schema lawful t)))
  tree-lawful t first lt low = pages-lawful (shape_of format schema (tree schema lawful t)) (tree-shape schema lawful format t lt) first (views_over schema facts (tree schema lawful t)) (tree_entries schema facts (tree schema lawful t)) (tree-views schema lawful facts storable t lt) low

  pub tree-long : (t : ℕ) → t < length trees → IsLong (tree schema lawful t)
  tree-long t lt = (
    pages-told schema lawful facts storable t 0 lt,
    λ first low. pages-long (shape_of format schema (tree schema lawful t)) (tree-shape schema lawful format t lt) first _ (tree-lawful t first lt low)
        ∙ ap (λ n. 4096 * n) (pages-told schema lawful facts storable t first lt),
  )

  pub all-long : All IsLong trees
  all-long t d lt = subst IsLong (get_or_default trees t no_tree d lt) (tree-long t lt)

  pub trees-long : (first : ℕ) (ts : List Tree) → All IsLong ts → first + pages_of_all format schema (body_counts schema facts) ts ≤ max_first
      → (length (trees_bytes format schema facts first ts) ≡ 4096 * pages_of_all format schema (body_counts schema facts) ts) × (sum_by (page_count format schema facts) ts ≡ pages_of_all format schema (body_counts schema facts) ts)
  trees-long first [] h low = (refl, refl)
  trees-long first (t ∷ ts) h low =
      let here = h 0 no_tree (omega arith) in
      let sum = sum_by-cons (pages_of format schema (body_counts schema facts)) t ts in
      let counted = sum_by-cons (page_count format schema facts) t ts in
      let rest = trees-long (first + page_count format schema facts t) ts (λ i d lt. h (suc i) d (omega (arith, lt))) (omega (arith, low, sum, here.0)) in (
        omega (arith, sum, here.1 first (omega (arith, low)), rest.0, length-append (tree_bytes format schema facts first t) (trees_bytes format schema facts (first + page_count format schema facts t) ts)),
        omega (arith, sum, counted, here.0, rest.1),
      )
