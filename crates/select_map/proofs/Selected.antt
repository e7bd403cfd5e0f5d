-- The mapping of views whose arities are at most 8 is what a selection promises.
use Rattle.std.proofs.Common.{◌≡◌, ℕ, zero, suc, ◌-◌, ◌^◌, ◌<◌, ◌≤◌, min, true, ◌&&◌, ◌||◌, List, [], ◌∷◌, Result, Ok, Err, Option, Some, None, length, get_or, replicate, map, refl, sym, ap, subst, ◌∙◌, ⊎_elim, arith}
use Rattle.std.specs.Prelude.{is_some, count_by, nat_lt, nat_le, nat_eq, IfOk, IsSome}
use Rattle.std.specs.List.{range_with_len, list_all, list_any, position_or_len}
use Rattle.std.proofs.lemmas.Bool.{and_parts, leb-true, eqb-true, eq-eqb, true≢false, false_from_ne_true, cases_lt, or_cases, or_right}
use Rattle.std.proofs.lemmas.List.{get_or_past, get_or-replicate, length-replicate}
use Rattle.std.proofs.lemmas.List.FromFn.{get_or-map-range_with_len, length-map-range_with_len}
use Rattle.std.proofs.lemmas.List.Sums.{position_or_len_is}
use Rattle.fact_model.specs.declared.memory.Memory.{Memory}
use Rattle.cube_schema.specs.declared.schema.Schema.{Schema}
use Rattle.cube_schema.specs.Reading.{are_distinct}
use Rattle.cube_schema.specs.Lawful.{is_view, IsSchema}
use Rattle.cube_schema.proofs.Tests.{all-at}
use Rattle.select_map.specs.declared.mapping.Tree.{Tree}
use Rattle.select_map.specs.declared.mapping.Mapping.{Mapping}
use Rattle.select_map.specs.declared.mapping.TheConstants.{ARITIES}
use Rattle.select_map.specs.Views.{View, has_arity, arity_at, tree_number, view_in, views_in, tree_at, tree_count, selected}
use Rattle.select_map.specs.Selection.{no_tree, tree_of, view_at, IsValid, IsSelection}
use Rattle.select_map.specs.Standing.{is_view as is_this, holds, first_holding}
use Rattle.select_map.proofs.Counts.{count, count-all, numbered, number-below, number-le, number-strict, most, most-is, most-bounds, most-reached}
use Rattle.select_map.proofs.Finds.{view_in-some, view_in-at}
use Rattle.select_map.proofs.Last.{has, last-ge, last-has}
use Rattle.select_map.proofs.Fewest.{arity-fewest}

-- each arity has a place in a tree
abbrev pub Short : List View → Type 0
Short views = (v : ℕ) → v < length views → arity_at views v < ARITIES

of-arity : List View → ℕ → ℕ
of-arity views arity = count_by (has_arity arity) views

-- ---- the number of trees
count-is : (views : List View) → tree_count views ≡ most (λ arity. count_by (has_arity arity) views) ARITIES
count-is views = sym (most-is (λ arity. count_by (has_arity arity) views) ARITIES)

count-bounds : (views : List View) (arity : ℕ) → arity < ARITIES → count_by (has_arity arity) views ≤ tree_count views
count-bounds views arity lt =
    let bound = most-bounds (λ a. count_by (has_arity a) views) ARITIES arity lt in
    subst (λ n. count_by (has_arity arity) views ≤ n) (sym (count-is views)) bound

count-reached : (views : List View) → 0 < tree_count views → (arity : ℕ) × (arity < ARITIES) × (count_by (has_arity arity) views ≡ tree_count views)
count-reached views some =
    let there = most-reached (λ a. count_by (has_arity a) views) ARITIES (subst (λ n. 0 < n) (count-is views) some) in
    (there.0, there.1, there.2 ∙ sym (count-is views))

-- ---- a place in a tree
tree-there : (views : List View) (t : ℕ) → t < tree_count views → tree_of (selected views) t ≡ tree_at views t
unfolding selected
tree-there views t lt = get_or-map-range_with_len (tree_at views) 0 (tree_count views) t t no_tree lt (omega arith)

tree-past : (views : List View) (t : ℕ) → tree_count views ≤ t → tree_of (selected views) t ≡ no_tree
unfolding selected
tree-past views t le = get_or_past (map (tree_at views) (range_with_len 0 (tree_count views))) t no_tree (let size = length-map-range_with_len (tree_at views) 0 (tree_count views) in omega arith)

slot-there : (views : List View) (t arity : ℕ) → arity < ARITIES → get_or (views_in views t) arity None ≡ view_in views t arity
slot-there views t arity lt = get_or-map-range_with_len (view_in views t) 0 ARITIES arity arity None lt (omega arith)

slot-past : (views : List View) (t arity : ℕ) → ARITIES ≤ arity → get_or (views_in views t) arity None ≡ None
slot-past views t arity le = get_or_past (views_in views t) arity None (let size = length-map-range_with_len (view_in views t) 0 ARITIES in omega arith)

abbrev no_view : Option ℕ
no_view = None

none-there : (arity : ℕ) → get_or (replicate ARITIES no_view) arity None ≡ None
none-there arity =
    ⊎_elim (λ (lt : arity < ARITIES). get_or-replicate ARITIES arity no_view no_view lt) (λ (le : ARITIES ≤ arity). get_or_past (replicate ARITIES no_view) arity no_view (let size = length-replicate ARITIES no_view in omega arith))
    (cases_lt arity ARITIES)

view-there : (views : List View) (t arity : ℕ) → t < tree_count views → arity < ARITIES → view_at (selected views) t arity ≡ view_in views t arity
view-there views t arity lt short = ap (λ (tree : Tree). get_or tree.view_of arity None) (tree-there views t lt) ∙ slot-there views t arity short

-- a view that stands in the mapping
view-found : (views : List View) (t arity v : ℕ) → view_at (selected views) t arity ≡ Some v → (t < tree_count views) × (arity < ARITIES) × (view_in views t arity ≡ Some v)
view-found views t arity v e =
    ⊎_elim
    (λ (lt : t < tree_count views).
    ⊎_elim
    (λ (short : arity < ARITIES). (lt, short, sym (view-there views t arity lt short) ∙ e))
    (λ (le : ARITIES ≤ arity). (let none : view_at (selected views) t arity ≡ None = ap (λ (tree : Tree). get_or tree.view_of arity None) (tree-there views t lt) ∙ slot-past views t arity le in cc))
    (cases_lt arity ARITIES))
    (λ (le : tree_count views ≤ t). (let none : view_at (selected views) t arity ≡ None = ap (λ (tree : Tree). get_or tree.view_of arity None) (tree-past views t le) ∙ none-there arity in cc))
    (cases_lt t (tree_count views))

trees-length : (views : List View) → length (selected views).trees ≡ tree_count views
unfolding selected
trees-length views = length-map-range_with_len (tree_at views) 0 (tree_count views)

number-there : (views : List View) → Short views → (v : ℕ) → v < length views → tree_number views v < tree_count views
number-there views short v lt =
    let below = number-below views v lt in
    let bound = count-bounds views (arity_at views v) (short v lt) in
    omega arith

placed : (views : List View) → Short views → (v : ℕ) → v < length views → view_at (selected views) (tree_number views v) (arity_at views v) ≡ Some v
placed views short v lt = view-there views (tree_number views v) (arity_at views v) (number-there views short v lt) (short v lt) ∙ view_in-at views v lt

alone : (views : List View) (t arity v : ℕ) → view_at (selected views) t arity ≡ Some v → (v < length views) × (arity_at views v ≡ arity) × (tree_number views v ≡ t)
alone views t arity v e = view_in-some views t arity v (view-found views t arity v e).2

-- each tree has a view
tree-has : (views : List View) (t : ℕ) → t < tree_count views → (arity : ℕ) × (has (views_in views t) arity ≡ true)
tree-has views t lt =
    let top = count-reached views (omega arith) in
    let there = numbered views top.0 t (length views) (omega arith) (let all = count-all views top.0 in let is = top.2 in omega arith) in
    let same : tree_number views there.0 ≡ t = ap (λ a. count views a there.0) there.2 ∙ there.3 in
    let found : view_in views t top.0 ≡ Some there.0 = (λ i. view_in views (sym same i) (sym there.2 i)) ∙ view_in-at views there.0 (let lt = there.1 in omega arith) in
    (top.0, ap is_some (slot-there views t top.0 top.1 ∙ found))

dims-has : (views : List View) (t : ℕ) → t < tree_count views → IsSome (view_at (selected views) t (tree_of (selected views) t).dims)
dims-has views t lt =
    let some = tree-has views t lt in
    let there = tree-there views t lt in
    ap (λ (tree : Tree). is_some (get_or tree.view_of tree.dims None)) there ∙ last-has (views_in views t) some.0 some.1

dims-largest : (views : List View) (t arity v : ℕ) → view_at (selected views) t arity ≡ Some v → arity ≤ (tree_of (selected views) t).dims
dims-largest views t arity v e =
    let found = view-found views t arity v e in
    let some : has (views_in views t) arity ≡ true = ap is_some (slot-there views t arity found.1 ∙ found.2) in
    let above = last-ge (views_in views t) 0 0 arity (omega arith) some in
    subst (λ (tree : Tree). arity ≤ tree.dims) (sym (tree-there views t found.0)) (omega arith)

valid : (views : List View) → Short views → IsValid views (tree_number views) (length (selected views).trees)
valid views short = record {
  within = λ v lt. (let there = number-there views short v lt in let size = trees-length views in omega arith);
  apart = λ v w lt there same. (λ e. (let strict = number-strict views v w lt there same in omega arith));
}

fewest : (views : List View) (tree : ℕ → ℕ) (count : ℕ) → IsValid views tree count → tree_count views ≤ count
fewest views tree count valid =
    ⊎_elim
    (λ (some : 0 < tree_count views). (let top = count-reached views some in let few = arity-fewest views tree top.0 count valid in let is = top.2 in omega arith))
    (λ (none : tree_count views ≤ 0). omega arith)
    (cases_lt 0 (tree_count views))

-- the mapping of such views is a selection
pub selection : (views : List View) → Short views → IsSelection views (selected views)
selection views short =
    let size = trees-length views in
    record {
      placed = placed views short;
      alone = alone views;
      dims = λ t lt. dims-has views t (omega arith);
      largest = dims-largest views;
      valid = valid views short;
      fewest = λ tree count v. (let few = fewest views tree count v in omega arith);
    }

-- ---- of a schema
-- the views of a schema have such arities
pub schema-short : (s : Schema) → IsSchema s → Short s.views
schema-short s lawful v lt =
    let view = get_or s.views v [] in
    let is = all-at (is_view (length s.attrs)) s.views v [] lawful.views lt in
    let small = and_parts (list_all (λ a. nat_lt a (length s.attrs)) view && are_distinct nat_eq view) (nat_le (length view) 8) is in
    let le = leb-true (length view) 8 small.1 in
    omega arith

pub schema_selection : (s : Schema) (r : Result Mapping Memory) → IsSchema s → IfOk r (λ m. m ≡ selected s.views) → IfOk r (IsSelection s.views)
schema_selection s (Ok m) lawful is = subst (IsSelection s.views) (sym is) (selection s.views (schema-short s lawful))
schema_selection s (Err e) lawful is = tt

-- ---- the tree that holds a view
this-is : (v : ℕ) (slot : Option ℕ) → is_this v slot ≡ true → slot ≡ Some v
this-is v (Some w) h = ap (λ k. Some k) (eqb-true w v h)
this-is v None h = absurd (true≢false (sym h))

held-at : (v : ℕ) (slots : List (Option ℕ)) → list_any (is_this v) slots ≡ true → (k : ℕ) × (get_or slots k None ≡ Some v)
held-at v [] h = absurd (true≢false (sym h))
held-at v (slot ∷ slots) h =
    ⊎_elim (λ (here : is_this v slot ≡ true). (0, this-is v slot here)) (λ (there : list_any (is_this v) slots ≡ true). (let rest = held-at v slots there in (suc rest.0, rest.1)))
    (or_cases (is_this v slot) (list_any (is_this v) slots) h)

held-from : (v : ℕ) (slots : List (Option ℕ)) (k : ℕ) → get_or slots k None ≡ Some v → list_any (is_this v) slots ≡ true
held-from v [] k h = cc
held-from v (slot ∷ slots) zero h = ap (λ o. is_this v o || list_any (is_this v) slots) h ∙ ap (λ b. b || list_any (is_this v) slots) (eq-eqb v v refl)
held-from v (slot ∷ slots) (suc k) h = or_right (is_this v slot) (list_any (is_this v) slots) (held-from v slots k h)

place-is : (views : List View) → Short views → (v : ℕ) → v < length views → position_or_len (holds v) (selected views).trees ≡ tree_number views v
place-is views short v lt =
    let m = selected views in
    let size = trees-length views in
    let there = number-there views short v lt in
    position_or_len_is (holds v) m.trees (tree_number views v) no_tree (omega arith)
    (λ k below. false_from_ne_true (holds v (tree_of m k)) (λ h.
    (let slot = held-at v (tree_of m k).view_of h in
    let is = (alone views k slot.0 v slot.1).2 in
    omega arith)))
    (λ lt-trees. held-from v (tree_of m (tree_number views v)).view_of (arity_at views v) (placed views short v lt))

pub tree_is : (m : Mapping) (v r : ℕ) → v < 2 ^ 32 → r ≡ first_holding v m → (s : Schema) → IsSchema s → m ≡ selected s.views → v < length s.views → r ≡ tree_number s.views v
tree_is m v r fits first s lawful is lt =
    let place : position_or_len (holds v) m.trees ≡ tree_number s.views v = ap (λ (n : Mapping). position_or_len (holds v) n.trees) is ∙ place-is s.views (schema-short s lawful) v lt in
    let below = number-le s.views v in
    first ∙ (let few : min (position_or_len (holds v) m.trees) (2 ^ 32 - 1) ≡ tree_number s.views v = omega arith in few)
