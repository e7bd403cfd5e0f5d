-- Where the trees of a generation stand.
use Rattle.std.proofs.Common.{◌≡◌, ◌≤◌, ◌<◌, ◌+◌, ◌%◌, ◌^◌, ℕ, List, [], ◌∷◌, get_or, length, map, sum_by, take, zero, suc, Option, Some, None, inl, inr, refl, ap, arith}
use Rattle.std.proofs.lemmas.List.{take_more}
use Rattle.std.proofs.lemmas.List.Sums.{sum_by-append, sum_by-cons, sum_by-take-drop}
use Rattle.cube_schema.specs.declared.schema.Schema.{Schema}
use Rattle.forest_root.specs.declared.body.Body.{Body}
use Rattle.forest_root.specs.declared.forest.Forest.{Forest}
use Rattle.cube_schema.specs.Lawful.{IsSchema}
use Rattle.spec_forest.proofs.Bounds.{pages-within}
use Rattle.spec_forest.proofs.Scanned.{few-views}
use Rattle.spec_forest.proofs.Selected.{tree-shape}
use Rattle.forest_root.proofs.Trees.{trees-few}
use Rattle.forest_root.specs.Body.{IsBody}
use Rattle.forest_root.specs.Forest.{count_in, pages_of, pages_of_all, place_of, shape_of}
use Rattle.page_fmt.specs.declared.page.Place.{Place}
use Rattle.page_fmt.specs.Writing.{IsShape}
use Rattle.std.specs.Prelude.{slice_index}
use Rattle.std.proofs.lemmas.Bool.{cases_lt}
use Rattle.select_map.specs.declared.mapping.Mapping.{Mapping}
use Rattle.select_map.specs.declared.mapping.Tree.{Tree}
use Rattle.select_map.specs.Selection.{no_tree, tree_of}
use Rattle.select_map.specs.Views.{arity_at, selected, tree_number}
use Rattle.select_map.proofs.Selected.{schema-short}
use Rattle.delta_agg.proofs.Rising.{schema-selection}
use Rattle.forest_audit.specs.Audited.{side_file, tree_place, trees_of}

abbrev place-in : Forest → Mapping → ℕ → Place
place-in forest m t = record {
  file = 2 + forest.body.generation % 2;
  first = pages_of_all forest.body.format forest.schema forest.body.counts (take t m.trees);
  pages = pages_of forest.body.format forest.schema forest.body.counts (tree_of m t);
  shape = shape_of forest.body.format forest.schema (tree_of m t);
}

pub place-is : (forest : Forest) → forest.mapping ≡ selected forest.schema.views → (t : ℕ) → place_of forest t ≡ tree_place forest.body forest.schema t
unfolding place_of
place-is forest mapped t = ap (λ (m : Mapping). place-in forest m t) mapped

-- the pages of one tree more
pub pages-more : (body : Body) (schema : Schema) (t : ℕ) → t < length (trees_of schema)
    → pages_of_all body.format schema body.counts (take (t + 1) (trees_of schema)) ≡ pages_of_all body.format schema body.counts (take t (trees_of schema)) + (tree_place body schema t).pages
pages-more body schema t lt =
    let f : Tree → ℕ = pages_of body.format schema body.counts in
    let tree = get_or (trees_of schema) t no_tree in
    omega (arith, ap (sum_by f) (take_more (trees_of schema) t no_tree lt), sum_by-append f (take t (trees_of schema)) (tree ∷ []), sum_by-cons f tree [])

pub all-pages : (body : Body) (schema : Schema) (n : ℕ) → pages_of_all body.format schema body.counts (take n (trees_of schema)) ≤ pages_of_all body.format schema body.counts (trees_of schema)
all-pages body schema n = omega (arith, sum_by-take-drop (pages_of body.format schema body.counts) (trees_of schema) n)

module _ (body : Body) (schema : Schema) (lawful : IsSchema schema) (within : IsBody (body.generation % 2) body) where
  -- no view has more points than there may be facts
  pub counts-low : (i : ℕ) → slice_index body.counts i ≤ 2 ^ 40
  counts-low i = elim (cases_lt i (length body.counts)) [
    | inl lt ↦ omega (arith, within.each_count.few i lt, within.within.facts)
    | inr not ↦ omega (arith, past-zero body.counts i not)
  ]
    where
      past-zero : (xs : List ℕ) (n : ℕ) → length xs ≤ n → slice_index xs n ≡ 0
      past-zero [] n le = refl
      past-zero (x ∷ xs) zero le = absurd (omega (arith, le))
      past-zero (x ∷ xs) (suc n) le = past-zero xs n (omega (arith, le))

  pub tree-few : (t : ℕ) → t < length (trees_of schema) → (tree_place body schema t).first + (tree_place body schema t).pages ≤ 2 ^ 50
  tree-few t lt =
      let all = pages-within body.format schema lawful body.counts counts-low (few-views schema lawful) in
      let f : Tree → ℕ = pages_of body.format schema body.counts in
      omega (arith, all, pages-more body schema t lt, sum_by-take-drop f (trees_of schema) (t + 1))

  pub all-few : pages_of_all body.format schema body.counts (trees_of schema) ≤ 2 ^ 50
  all-few = pages-within body.format schema lawful body.counts counts-low (few-views schema lawful)

  pub slots-low : (slots : List (Option ℕ)) (i : ℕ) → slice_index (map (count_in body.counts) slots) i ≤ 2 ^ 40
  slots-low [] i = omega arith
  slots-low (None ∷ slots) zero = omega arith
  slots-low (Some v ∷ slots) zero = counts-low v
  slots-low (slot ∷ slots) (suc i) = slots-low slots i

  pub tree-shaped : (t : ℕ) → t < length (trees_of schema) → IsShape (tree_place body schema t).shape
  tree-shaped t lt = tree-shape schema lawful body.format t lt

  pub side-low : side_file body < 4
  side-low = omega arith

  pub trees-low : length (trees_of schema) ≤ 32
  trees-low = omega (arith, trees-few schema (selected schema.views) lawful refl, few-views schema lawful)

module _ (schema : Schema) (lawful : IsSchema schema) where
  pub number-low : (v : ℕ) → v < length schema.views → tree_number schema.views v < length (trees_of schema)
  number-low v lt = (schema-selection schema (selected schema.views) lawful refl).valid.within v lt

  pub arity-low : (v : ℕ) → v < length schema.views → arity_at schema.views v < 9
  arity-low v lt = schema-short schema lawful v lt
