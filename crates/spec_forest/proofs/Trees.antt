-- The points of a tree of a schema over facts: what the packer asks of them.
use Rattle.std.proofs.Common.{◌≡◌, ◌≤◌, ◌<◌, ◌+◌, ◌*◌, ◌^◌, ℕ, true, false, List, [], ◌∷◌, ◌++◌, length, map, refl, sym, ap, ◌∙◌, subst, arith, length-append}
use Rattle.std.specs.List.{All, AllByRecursion}
use Rattle.std.proofs.Math.Nat.{mul-le-mul_right}
use Rattle.std.proofs.lemmas.List.{map-append, length-map}
use Rattle.std.proofs.lemmas.List.Elements.{All-append}
use Rattle.fact_model.specs.declared.fact.Fact.{Fact}
use Rattle.cube_point.specs.declared.point.Entry.{Entry}
use Rattle.cube_point.specs.declared.point.Shape.{Shape}
use Rattle.cube_schema.specs.declared.schema.Schema.{Schema}
use Rattle.cube_schema.specs.Kinds.{measure_count}
use Rattle.spec_points.specs.Entries.{entry_of}
use Rattle.spec_points.specs.Points.{Names, View, Rises, points_by, tree_by}
use Rattle.spec_points.proofs.Members.{every-from_All}
use Rattle.spec_points.proofs.Trees.{rises-head, rises-tail, tree-ascends}
use Rattle.spec_forest.specs.Storable.{AreStorable}
use Rattle.spec_forest.proofs.Leaves.{ascend-entries, entries-arity, entries-fit}
use Rattle.spec_forest.proofs.Joined.{points-few}
use Rattle.leaf_pack.specs.Leaf.{arity_of}
use Rattle.spec_tree.specs.Leaves.{AreViews, HaveArity, Rise}
use Rattle.page_fmt.specs.Formats.{is_wide}
use Rattle.page_entry.specs.Entries.{ascend, entry_before}
use Rattle.page_fmt.specs.Trees.{room_of}
use Rattle.page_entry.specs.Stored.{FitsLeaf}
use Rattle.page_fmt.proofs.Rooms.{room-some}
use Rattle.tree_pack.specs.Packing.{AreTreePoints}
use Rattle.tree_pack.specs.Pages.{Views, joined}

-- the arities rise, so the last is above the first by at least the number of views
rises-many : (v : View) (vs : List View) → Rises (v ∷ vs) → length v + length vs ≤ 8
rises-many v [] h = omega (arith, h)
rises-many v (w ∷ vs) h = let rest = rises-many w vs h.1 in omega (arith, h.0, rest)

module _ (names : Names) (schema : Schema) (facts : List Fact) where
  -- the points of a view by these names, as entries
  abbrev pub entries_by : View → List Entry
  entries_by view = map entry_of (points_by names (measure_count schema) view facts)

  -- the views, each with its arity and its points
  abbrev pub over : List View → Views
  over views = map (λ view. (length view, entries_by view)) views

  -- their points are the points of the tree
  pub joined-points : (views : List View) → joined (over views) ≡ map entry_of (tree_by names (measure_count schema) views facts)
  joined-points [] = refl
  joined-points (v ∷ vs) = ap (λ es. entries_by v ++ es) (joined-points vs) ∙ sym (map-append entry_of (points_by names (measure_count schema) v facts) (tree_by names (measure_count schema) vs facts))

  over-rise : (views : List View) → Rises views → Rise (over views)
  over-rise [] h = tt
  over-rise (v ∷ []) h = tt
  over-rise (v ∷ w ∷ vs) h = (h.0, over-rise (w ∷ vs) h.1)

  joined-few : (views : List View) → length (joined (over views)) ≤ length views * length facts
  joined-few [] = omega arith
  joined-few (v ∷ vs) =
      let few = points-few names (measure_count schema) v facts in
      omega (arith, length-append (entries_by v) (joined (over vs)), length-map (points_by names (measure_count schema) v facts) entry_of, few, joined-few vs)

  module _ {format : ℕ} (shape : Shape) (measures : shape.measures ≡ measure_count schema) (wide : shape.wide ≡ is_wide format) (four : measure_count schema ≤ 4) (storable : AreStorable format names (measure_count schema) facts) where
    over-arities : (views : List View) → AllByRecursion (λ v. HaveArity arity_of v.0 v.1) (over views)
    over-arities [] = tt
    over-arities (v ∷ vs) = (every-from_All (λ (e : Entry). e.point.arity ≡ length v) (entries_by v) (entries-arity (record { dims = 0; measures = measure_count schema; wide = false }) names v facts storable.coded), over-arities vs)

    over-rooms : (views : List View) → Rises views → AllByRecursion (λ v. 0 < room_of shape v.0) (over views)
    over-rooms [] h = tt
    over-rooms (v ∷ vs) h = (omega (arith, room-some (length v) shape (rises-head v vs h) (omega (arith, measures, four))), over-rooms vs (rises-tail v vs h))

    -- the views are those of a tree
    pub over-views : (views : List View) → Rises views → AreViews arity_of (room_of shape) (over views)
    over-views views h = record { arities = over-arities views; rise = over-rise views h; rooms = over-rooms views h }

    over-fit : (views : List View) → Rises views → All (FitsLeaf shape) (joined (over views))
    over-fit [] h = λ i d low. absurd (omega (arith, low))
    over-fit (v ∷ vs) h = All-append (FitsLeaf shape) (entries_by v) (joined (over vs))
        (subst (λ (s : Shape). All (FitsLeaf s) (entries_by v)) (λ i. record { dims = shape.dims; measures = sym measures i; wide = shape.wide })
        (entries-fit (record { dims = shape.dims; measures = measure_count schema; wide = shape.wide }) names v facts wide (rises-head v vs h) four storable))
        (over-fit vs (rises-tail v vs h))

    over-dims : (views : List View) → AllByRecursion (λ (v : View). length v ≤ shape.dims) views → All (λ (e : Entry). e.point.arity ≤ shape.dims) (joined (over views))
    over-dims [] h = λ i d low. absurd (omega (arith, low))
    over-dims (v ∷ vs) h = All-append (λ (e : Entry). e.point.arity ≤ shape.dims) (entries_by v) (joined (over vs))
        (λ i d low. subst (λ a. a ≤ shape.dims) (sym (entries-arity (record { dims = 0; measures = measure_count schema; wide = false }) names v facts storable.coded i d low)) h.0)
        (over-dims vs h.1)

    over-order : (views : List View) → Rises views → ascend entry_before (joined (over views)) ≡ true
    over-order views h = ap (ascend entry_before) (joined-points views)
        ∙ ascend-entries (tree_by names (measure_count schema) views facts) (tree-ascends names (measure_count schema) views facts h storable.coded)

    over-count : (views : List View) → Rises views → length views * length facts ≤ 9 * 2 ^ 40
    over-count [] h = omega arith
    over-count (v ∷ vs) h = nine (length (v ∷ vs)) (length facts) (omega (arith, rises-many v vs h)) storable.few
      where
        nine : (n m : ℕ) → n ≤ 9 → m ≤ 2 ^ 40 → n * m ≤ 9 * 2 ^ 40
        nine n m few many = omega (arith, mul-le-mul_right m few, many)

    -- their points are points of the tree
    pub over-tree : (views : List View) → Rises views → AllByRecursion (λ (v : View). length v ≤ shape.dims) views → AreTreePoints shape (joined (over views))
    over-tree views h dims = record {
      order = over-order views h;
      arities = over-dims views dims;
      good = over-fit views h;
      few = omega (arith, joined-few views, over-count views h);
    }
