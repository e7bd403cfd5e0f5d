-- How many pages the trees of a generation may have, whatever numbers of points its body tells.
use Rattle.std.proofs.Common.{◌≡◌, ◌≤◌, ◌<◌, ◌+◌, ◌*◌, ◌/◌, ◌%◌, ◌^◌, ℕ, zero, suc, List, [], ◌∷◌, Option, Some, None, length, map, take, get_or, sum_by, refl, ap, ◌∙◌, arith}
use Rattle.std.specs.Prelude.{slice_index}
use Rattle.std.specs.List.{All}
use Rattle.std.proofs.Math.Nat.{zero-mul, div-add-mod'}
use Rattle.std.proofs.lemmas.List.Sums.{sum_by-cons}
use Rattle.cube_point.specs.declared.point.Shape.{Shape}
use Rattle.cube_schema.specs.declared.schema.Schema.{Schema}
use Rattle.cube_schema.specs.Lawful.{IsSchema}
use Rattle.spec_tree.specs.Counts.{level_pages, runs_of, tree_leaves}
use Rattle.page_fmt.specs.Trees.{by_arity, fanout_of, room_of, tree_pages}
use Rattle.page_fmt.specs.Writing.{IsShape}
use Rattle.page_fmt.proofs.Rooms.{fanout-many, room-many}
use Rattle.select_map.specs.declared.mapping.Tree.{Tree}
use Rattle.select_map.specs.Views.{selected}
use Rattle.select_map.specs.Selection.{no_tree}
use Rattle.forest_root.specs.declared.forest.Forest.{Forest}
use Rattle.forest_root.specs.Forest.{count_in, counts_of, pages_of, pages_of_all, place_of, shape_of}
use Rattle.forest_root.proofs.Trees.{trees-dims, trees-few}
use Rattle.tree_pack.proofs.LevelPages.{levels-few, runs-fifteen}
use Rattle.spec_forest.proofs.Selected.{few-measures, some-measures}

pub tree-few : (shape : Shape) (counts : List ℕ) → IsShape shape → ((i : ℕ) → slice_index counts i ≤ 2 ^ 40) → tree_pages shape counts ≤ 2 ^ 41
unfolding tree_pages
tree-few shape counts is few =
    let two : 2 ≤ fanout_of shape = omega (arith, fanout-many shape is.dims) in
    let at : (a : ℕ) → a ≤ 8 → 15 * runs_of (room_of shape a) (slice_index counts a) ≤ 2 ^ 40 + 15 = λ a low. omega (arith, runs-fifteen (room_of shape a) (slice_index counts a) (room-many a shape low is.measures), few a) in
    let leaves : 15 * tree_leaves (room_of shape) (by_arity 9 counts) ≤ 9 * (2 ^ 40 + 15) =
    omega (arith, at 0 (omega arith), at 1 (omega arith), at 2 (omega arith), at 3 (omega arith), at 4 (omega arith), at 5 (omega arith), at 6 (omega arith), at 7 (omega arith), at 8 (omega arith)) in
    omega (arith, leaves, levels-few (fanout_of shape) 11 (tree_leaves (room_of shape) (by_arity 9 counts)) two)

count-few : (counts : List ℕ) → ((i : ℕ) → slice_index counts i ≤ 2 ^ 40) → (o : Option ℕ) → count_in counts o ≤ 2 ^ 40
count-few counts few None = omega arith
count-few counts few (Some v) = few v

counts-few : (counts : List ℕ) → ((i : ℕ) → slice_index counts i ≤ 2 ^ 40) → (slots : List (Option ℕ)) (i : ℕ) → slice_index (map (count_in counts) slots) i ≤ 2 ^ 40
counts-few counts few [] i = omega arith
counts-few counts few (o ∷ slots) zero = count-few counts few o
counts-few counts few (o ∷ slots) (suc i) = counts-few counts few slots i

module _ (format : ℕ) (schema : Schema) (lawful : IsSchema schema) (counts : List ℕ) (few : (i : ℕ) → slice_index counts i ≤ 2 ^ 40) where
  -- a tree has at most 2^41 pages
  pub pages-few : (tree : Tree) → tree.dims ≤ 8 → pages_of format schema counts tree ≤ 2 ^ 41
  pages-few tree low = tree-few (shape_of format schema tree) (counts_of counts tree) (record { dims = low; some = some-measures schema lawful; measures = few-measures schema lawful }) (counts-few counts few tree.view_of)

  all-few : (trees : List Tree) → All (λ (tree : Tree). tree.dims ≤ 8) trees → pages_of_all format schema counts trees ≤ length trees * 2 ^ 41
  all-few [] h = omega arith
  all-few (tree ∷ trees) h = omega (arith, sum_by-cons (pages_of format schema counts) tree trees, pages-few tree (h 0 no_tree (omega arith)), all-few trees (λ i d lt. h (suc i) d (omega (arith, lt))))

  -- all trees together have at most 2^50 pages
  pub pages-within : length schema.views ≤ 32 → pages_of_all format schema counts (selected schema.views).trees ≤ 2 ^ 50
  pages-within views =
      let all = all-few (selected schema.views).trees (trees-dims schema (selected schema.views) refl) in
      let trees = trees-few schema (selected schema.views) lawful refl in
      omega (arith, all, trees, views)

front-and-one : {A : Type 0} (f : A → ℕ) (xs : List A) (t : ℕ) (d : A) → t < length xs → sum_by f (take t xs) + f (get_or xs t d) ≤ sum_by f xs
front-and-one f [] t d lt = absurd (omega (arith, lt))
front-and-one f (x ∷ xs) zero d lt = omega (arith, sum_by-cons f x xs)
front-and-one f (x ∷ xs) (suc t) d lt = omega (arith, sum_by-cons f x xs, sum_by-cons f x (take t xs), front-and-one f xs t d (omega (arith, lt)))

-- each tree ends where all end, or before
pub place-within : (forest : Forest) (t : ℕ) → t < length forest.mapping.trees
    → (place_of forest t).first + (place_of forest t).pages ≤ pages_of_all forest.body.format forest.schema forest.body.counts forest.mapping.trees
unfolding place_of
place-within forest t lt = front-and-one (pages_of forest.body.format forest.schema forest.body.counts) forest.mapping.trees t no_tree lt

-- ---- a tree without pages has no points

no-runs : (k n : ℕ) → runs_of k n ≡ 0 → n ≡ 0
no-runs k n none =
    let split : n / k * k + n % k ≡ n = div-add-mod' n k in
    let whole : n / k ≡ 0 = omega (arith, none) in
    let product : n / k * k ≡ 0 = ap (λ q. q * k) whole ∙ zero-mul k in
    omega (arith, split, product, none)

no-leaves : (k n : ℕ) → level_pages k 11 n ≡ 0 → n ≡ 0
no-leaves k zero none = refl
no-leaves k (suc zero) none = absurd (omega (arith, none))
no-leaves k (suc (suc n)) none = absurd (omega (arith, none))

pub no-pages : (shape : Shape) (counts : List ℕ) → tree_pages shape counts ≡ 0 → (arity : ℕ) → arity < 9 → slice_index counts arity ≡ 0
unfolding tree_pages
no-pages shape counts none arity low = by arity low (no-leaves (fanout_of shape) (tree_leaves (room_of shape) (by_arity 9 counts)) none)
  where
    by : (a : ℕ) → a < 9 → tree_leaves (room_of shape) (by_arity 9 counts) ≡ 0 → slice_index counts a ≡ 0
    by zero low none = no-runs (room_of shape 0) (slice_index counts 0) (omega (arith, none))
    by (suc zero) low none = no-runs (room_of shape 1) (slice_index counts 1) (omega (arith, none))
    by (suc (suc zero)) low none = no-runs (room_of shape 2) (slice_index counts 2) (omega (arith, none))
    by (suc (suc (suc zero))) low none = no-runs (room_of shape 3) (slice_index counts 3) (omega (arith, none))
    by (suc (suc (suc (suc zero)))) low none = no-runs (room_of shape 4) (slice_index counts 4) (omega (arith, none))
    by (suc (suc (suc (suc (suc zero))))) low none = no-runs (room_of shape 5) (slice_index counts 5) (omega (arith, none))
    by (suc (suc (suc (suc (suc (suc zero)))))) low none = no-runs (room_of shape 6) (slice_index counts 6) (omega (arith, none))
    by (suc (suc (suc (suc (suc (suc (suc zero))))))) low none = no-runs (room_of shape 7) (slice_index counts 7) (omega (arith, none))
    by (suc (suc (suc (suc (suc (suc (suc (suc zero)))))))) low none = no-runs (room_of shape 8) (slice_index counts 8) (omega (arith, none))
    by (suc (suc (suc (suc (suc (suc (suc (suc (suc n))))))))) low none = absurd (omega (arith, low))
