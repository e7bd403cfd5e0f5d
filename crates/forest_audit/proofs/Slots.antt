-- The points of a tree over facts, cut by the numbers of points of its views.
use Rattle.std.proofs.Common.{◌≡◌, ◌<◌, ◌+◌, ℕ, suc, false, List, [], ◌∷◌, ◌++◌, Option, Some, None, get_or, length, map, replicate, take, drop, refl, ap, sym, ◌∙◌, arith}
use Rattle.std.specs.Prelude.{flat_map}
use Rattle.std.specs.List.{AllByRecursion, range_with_len}
use Rattle.std.proofs.Math.Seq.{drop-append_seam, take-append_seam}
use Rattle.std.proofs.lemmas.List.{map-append}
use Rattle.fact_model.specs.declared.fact.Fact.{Fact}
use Rattle.cube_point.specs.declared.point.Entry.{Entry}
use Rattle.cube_point.specs.declared.point.Shape.{Shape}
use Rattle.cube_schema.specs.declared.schema.Schema.{Schema}
use Rattle.cube_schema.specs.Kinds.{measure_count}
use Rattle.spec_points.specs.Codes.{names_of}
use Rattle.spec_points.specs.Points.{View}
use Rattle.spec_points.proofs.Members.{every-from_All}
use Rattle.spec_forest.specs.Storable.{AreStorable}
use Rattle.spec_forest.proofs.Leaves.{entries-arity}
use Rattle.leaf_pack.specs.Leaf.{arity_of}
use Rattle.spec_tree.specs.Runs.{runs, top}
use Rattle.spec_tree.specs.Tree.{inner, laid, leaf}
use Rattle.page_fmt.specs.Trees.{fanout_of, room_of}
use Rattle.select_map.specs.Views.{arity_at}
use Rattle.select_map.proofs.TreeViews.{numbers_in}
use Rattle.spec_forest.specs.Forest.{view_entries}
use Rattle.tree_pack.specs.Pages.{Views, child_of, joined, pages_of}
use Rattle.audit_tree.specs.Numbers.{cut}
use Rattle.audit_tree.proofs.Arities.{run}

-- the runs of each view
abbrev pub all_runs : (ℕ → ℕ) → Views → List (List Entry)
all_runs room views = flat_map (λ (v : ℕ × List Entry). runs (room v.0) v.1) views

-- views with the same runs have the same pages
pub pages-same : (shape : Shape) (first : ℕ) (vs ws : Views) → all_runs (room_of shape) vs ≡ all_runs (room_of shape) ws → pages_of shape first vs ≡ pages_of shape first ws
pages-same shape first vs ws same = ap (λ (rs : List (List Entry)). laid first (top (fanout_of shape) (inner child_of) 11 (map leaf rs))) same

all-arity : (a : ℕ) (es : List Entry) → AllByRecursion (λ (e : Entry). e.point.arity ≡ a) es → map arity_of es ≡ replicate (length es) a
all-arity a [] h = refl
all-arity a (e ∷ es) h = λ i. h.0 i ∷ all-arity a es h.1 i

module _ {format : ℕ} (schema : Schema) (facts : List Fact) (storable : AreStorable format (names_of facts) (measure_count schema) facts) where
  abbrev view_at : ℕ → View
  view_at v = get_or schema.views v []

  -- the points of the view in a slot
  abbrev pub slot_entries : Option ℕ → List Entry
  slot_entries (Some v) = view_entries schema facts (view_at v)
  slot_entries None = []

  -- the views in slots
  abbrev pub views_in : List (Option ℕ) → Views
  views_in slots = map (λ (view : View). (length view, view_entries schema facts view)) (map (λ v. get_or schema.views v []) (numbers_in slots))

  -- from the arity k on, each slot has a declared view of its arity
  abbrev pub Stand : ℕ → List (Option ℕ) → Type 0
  Stand k slots = (i v : ℕ) → get_or slots i None ≡ Some v → (v < length schema.views) × (arity_at schema.views v ≡ k + i)

  -- from the arity k on, these are the numbers of points
  abbrev pub Count : (ℕ → ℕ) → ℕ → List (Option ℕ) → Type 0
  Count f k slots = (i : ℕ) → i < length slots → f (k + i) ≡ length (slot_entries (get_or slots i None))

  stand-behind : (k : ℕ) (slot : Option ℕ) (slots : List (Option ℕ)) → Stand k (slot ∷ slots) → Stand (k + 1) slots
  stand-behind k slot slots stand i v there = let is = stand (suc i) v there in (is.0, omega (arith, is.1))

  count-behind : (f : ℕ → ℕ) (k : ℕ) (slot : Option ℕ) (slots : List (Option ℕ)) → Count f k (slot ∷ slots) → Count f (k + 1) slots
  count-behind f k slot slots count i lt = let next : k + 1 + i ≡ k + suc i = omega arith in ap f next ∙ count (suc i) (omega (arith, lt))

  count-here : (f : ℕ → ℕ) (k : ℕ) (slot : Option ℕ) (slots : List (Option ℕ)) → Count f k (slot ∷ slots) → f k ≡ length (slot_entries slot)
  count-here f k slot slots count = let here : k ≡ k + 0 = omega arith in ap f here ∙ count 0 (omega arith)

  arity-here : (k v : ℕ) (slots : List (Option ℕ)) → Stand k (Some v ∷ slots) → length (view_at v) ≡ k
  arity-here k v slots stand = omega (arith, (stand 0 v refl).1)

  -- the points of a view have its arity
  pub has-arity : (v : ℕ) → AllByRecursion (λ (e : Entry). e.point.arity ≡ length (view_at v)) (view_entries schema facts (view_at v))
  has-arity v = every-from_All (λ (e : Entry). e.point.arity ≡ length (view_at v)) (view_entries schema facts (view_at v))
      (entries-arity (record { dims = 0; measures = measure_count schema; wide = false }) (names_of facts) (view_at v) facts storable.coded)

  -- the arities of their points are those of these numbers
  pub slots-arities : (f : ℕ → ℕ) (k : ℕ) (slots : List (Option ℕ)) → Stand k slots → Count f k slots → map arity_of (joined (views_in slots)) ≡ run f k (length slots)
  slots-arities f k [] stand count = refl
  slots-arities f k (None ∷ slots) stand count =
      slots-arities f (k + 1) slots (stand-behind k None slots stand) (count-behind f k None slots count)
      ∙ ap (λ (n : ℕ). replicate n k ++ run f (k + 1) (length slots)) (sym (count-here f k None slots count))
  slots-arities f k (Some v ∷ slots) stand count =
      let es : List Entry = view_entries schema facts (view_at v) in
      let rest = slots-arities f (k + 1) slots (stand-behind k (Some v) slots stand) (count-behind f k (Some v) slots count) in
      let own : map arity_of es ≡ replicate (length es) (length (view_at v)) = all-arity (length (view_at v)) es (has-arity v) in
      let many : f k ≡ length es = count-here f k (Some v) slots count in
      let here : map arity_of es ≡ replicate (f k) k = own ∙ (λ i. replicate (sym many i) (arity-here k v slots stand i)) in
      map-append arity_of es (joined (views_in slots)) ∙ (λ i. here i ++ rest i)

  -- cut by these numbers they have the runs of the views
  pub slots-runs : (room f : ℕ → ℕ) (k : ℕ) (slots : List (Option ℕ)) → Stand k slots → Count f k slots
      → all_runs room (cut (map (λ a. (a, f a)) (range_with_len k (length slots))) (joined (views_in slots))) ≡ all_runs room (views_in slots)
  slots-runs room f k [] stand count = refl
  slots-runs room f k (None ∷ slots) stand count =
      let all : List Entry = joined (views_in slots) in
      let counts : List (ℕ × ℕ) = map (λ a. (a, f a)) (range_with_len (k + 1) (length slots)) in
      ap (λ (n : ℕ). runs (room k) (take n all) ++ all_runs room (cut counts (drop n all))) (count-here f k None slots count)
      ∙ slots-runs room f (k + 1) slots (stand-behind k None slots stand) (count-behind f k None slots count)
  slots-runs room f k (Some v ∷ slots) stand count =
      let es : List Entry = view_entries schema facts (view_at v) in
      let all : List Entry = joined (views_in slots) in
      let counts : List (ℕ × ℕ) = map (λ a. (a, f a)) (range_with_len (k + 1) (length slots)) in
      let front = take-append_seam es all in
      let back = drop-append_seam es all in
      let rest = slots-runs room f (k + 1) slots (stand-behind k (Some v) slots stand) (count-behind f k (Some v) slots count) in
      ap (λ (n : ℕ). runs (room k) (take n (es ++ all)) ++ all_runs room (cut counts (drop n (es ++ all)))) (count-here f k (Some v) slots count)
      ∙ ((λ i. runs (room (sym (arity-here k v slots stand) i)) (front i) ++ all_runs room (cut counts (back i)))
      ∙ ap (λ (rs : List (List Entry)). runs (room (length (view_at v))) es ++ rs) rest)
