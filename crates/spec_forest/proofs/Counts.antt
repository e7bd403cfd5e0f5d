-- How many points of each arity a tree has: those of its view of that arity.
use Rattle.std.proofs.Common.{◌≡◌, ◌<◌, ◌+◌, ℕ, zero, suc, Bool, true, false, List, [], ◌∷◌, ◌++◌, Option, Some, None, cond, filter, length, map, get_or, refl, sym, ap, ◌∙◌, arith, append-nil}
use Rattle.std.specs.Prelude.{◌==◌}
use Rattle.std.specs.List.{AllByRecursion}
use Rattle.std.proofs.lemmas.Bool.{eq-eqb, ne_eqb}
use Rattle.std.proofs.lemmas.List.{length-map}
use Rattle.std.proofs.lemmas.List.Sums.{sum_by-cons, sum_by-append}
use Rattle.fact_model.specs.declared.fact.Fact.{Fact}
use Rattle.cube_point.specs.declared.point.Entry.{Entry}
use Rattle.cube_schema.specs.declared.schema.Schema.{Schema}
use Rattle.cube_schema.specs.Kinds.{measure_count}
use Rattle.spec_points.specs.Entries.{entry_of}
use Rattle.spec_points.specs.Points.{Names, View, points_by}
use Rattle.spec_points.proofs.Members.{every-from_All}
use Rattle.spec_forest.specs.Storable.{AreStorable}
use Rattle.spec_forest.proofs.Leaves.{entries-arity}
use Rattle.leaf_pack.specs.Leaf.{arity_of}
use Rattle.select_map.specs.Views.{arity_at}
use Rattle.select_map.proofs.TreeViews.{numbers_in}
use Rattle.tree_pack.specs.Pages.{count_of, joined}
use Rattle.spec_forest.proofs.Trees.{entries_by, over}

-- ---- points of one arity

abbrev HaveArity : ℕ → List Entry → Type 0
HaveArity a es = AllByRecursion (λ (e : Entry). e.point.arity ≡ a) es

count-all : (a : ℕ) (es : List Entry) → HaveArity a es → count_of a es ≡ length es
count-all a [] h = refl
count-all a (e ∷ es) h =
    let one : ◌≡◌ {A = ℕ} (cond (arity_of e == a) 1 0) 1 = ap (λ b. cond b 1 0) (eq-eqb e.point.arity a h.0) in
    omega (arith, sum_by-cons (λ x. cond (arity_of x == a) 1 0) e es, one, count-all a es h.1)

count-none : (a b : ℕ) (es : List Entry) → HaveArity b es → (b ≡ a → ⊥) → count_of a es ≡ 0
count-none a b [] h other = refl
count-none a b (e ∷ es) h other =
    let none : ◌≡◌ {A = ℕ} (cond (arity_of e == a) 1 0) 0 = ap (λ b. cond b 1 0) (ne_eqb e.point.arity a (λ is. other (sym h.0 ∙ is))) in
    omega (arith, sum_by-cons (λ x. cond (arity_of x == a) 1 0) e es, none, count-none a b es h.1 other)

filter-all : (a : ℕ) (es : List Entry) → HaveArity a es → filter (λ (e : Entry). e.point.arity == a) es ≡ es
filter-all a [] h = refl
filter-all a (e ∷ es) h = ap (λ b. cond b (e ∷ filter (λ (x : Entry). x.point.arity == a) es) (filter (λ (x : Entry). x.point.arity == a) es)) (eq-eqb e.point.arity a h.0) ∙ ap (λ r. e ∷ r) (filter-all a es h.1)

filter-none : (a b : ℕ) (es : List Entry) → HaveArity b es → (b ≡ a → ⊥) → filter (λ (e : Entry). e.point.arity == a) es ≡ []
filter-none a b [] h other = refl
filter-none a b (e ∷ es) h other = ap (λ t. cond t (e ∷ filter (λ (x : Entry). x.point.arity == a) es) (filter (λ (x : Entry). x.point.arity == a) es)) (ne_eqb e.point.arity a (λ is. other (sym h.0 ∙ is))) ∙ filter-none a b es h.1 other

filter-append : (p : Entry → Bool) (es ds : List Entry) → filter p (es ++ ds) ≡ filter p es ++ filter p ds
filter-append p [] ds = refl
filter-append p (e ∷ es) ds = elim (p e) as (λ b. cond b (e ∷ filter p (es ++ ds)) (filter p (es ++ ds)) ≡ cond b (e ∷ filter p es) (filter p es) ++ filter p ds)
    [ true ↦ ap (λ r. e ∷ r) (filter-append p es ds) | false ↦ filter-append p es ds ]

-- ---- points of the views in the slots of a tree

module _ {format : ℕ} (names : Names) (schema : Schema) (facts : List Fact) (storable : AreStorable format names (measure_count schema) facts) where
  abbrev entries_of : View → List Entry
  entries_of view = entries_by names schema facts view

  abbrev named : List (Option ℕ) → List View
  named slots = map (λ v. get_or schema.views v []) (numbers_in slots)

  abbrev points_in : List (Option ℕ) → List Entry
  points_in slots = joined (over names schema facts (named slots))

  -- from the arity k on, each slot has a declared view of its arity
  abbrev Stand : ℕ → List (Option ℕ) → Type 0
  Stand k slots = (i v : ℕ) → get_or slots i None ≡ Some v → (v < length schema.views) × (arity_at schema.views v ≡ k + i)

  behind : (k : ℕ) (slot : Option ℕ) (slots : List (Option ℕ)) → Stand k (slot ∷ slots) → Stand (suc k) slots
  behind k slot slots stand i v there = let is = stand (suc i) v there in (is.0, omega (arith, is.1))

  abbrev view_at : ℕ → View
  view_at v = get_or schema.views v []

  has-arity : (v : ℕ) → HaveArity (length (view_at v)) (entries_of (view_at v))
  has-arity v = every-from_All (λ (e : Entry). e.point.arity ≡ length (view_at v)) (entries_of (view_at v)) (entries-arity (record { dims = 0; measures = measure_count schema; wide = false }) names (view_at v) facts storable.coded)

  count-append : (a : ℕ) (es ds : List Entry) → count_of a (es ++ ds) ≡ count_of a es + count_of a ds
  count-append a es ds = sum_by-append (λ x. cond (arity_of x == a) 1 0) es ds

  slots-none : (a k : ℕ) (slots : List (Option ℕ)) → Stand k slots → a < k → count_of a (points_in slots) ≡ 0
  slots-none a k [] stand low = refl
  slots-none a k (None ∷ slots) stand low = slots-none a (suc k) slots (behind k None slots stand) (omega (arith, low))
  slots-none a k (Some v ∷ slots) stand low =
      let here = (stand 0 v refl).1 in
      let none = count-none a (length (view_at v)) (entries_of (view_at v)) (has-arity v) (λ is. omega (arith, is, here, low)) in
      omega (arith, count-append a (entries_of (view_at v)) (points_in slots), none, slots-none a (suc k) slots (behind k (Some v) slots stand) (omega (arith, low)))

  slots-filter-none : (a k : ℕ) (slots : List (Option ℕ)) → Stand k slots → a < k → filter (λ (e : Entry). e.point.arity == a) (points_in slots) ≡ []
  slots-filter-none a k [] stand low = refl
  slots-filter-none a k (None ∷ slots) stand low = slots-filter-none a (suc k) slots (behind k None slots stand) (omega (arith, low))
  slots-filter-none a k (Some v ∷ slots) stand low =
      let here = (stand 0 v refl).1 in
      let none = filter-none a (length (view_at v)) (entries_of (view_at v)) (has-arity v) (λ is. omega (arith, is, here, low)) in
      filter-append (λ (e : Entry). e.point.arity == a) (entries_of (view_at v)) (points_in slots)
      ∙ (λ i. none i ++ slots-filter-none a (suc k) slots (behind k (Some v) slots stand) (omega (arith, low)) i)

  -- how many points stand in a slot
  abbrev pub slot_count : Option ℕ → ℕ
  slot_count (Some v) = length (points_by names (measure_count schema) (view_at v) facts)
  slot_count None = 0

  pub slots-count : (k j : ℕ) (slots : List (Option ℕ)) → Stand k slots → count_of (k + j) (points_in slots) ≡ slot_count (get_or slots j None)
  slots-count k j [] stand = refl
  slots-count k zero (None ∷ slots) stand = slots-none (k + 0) (suc k) slots (behind k None slots stand) (omega arith)
  slots-count k (suc j) (None ∷ slots) stand = let next : k + suc j ≡ suc k + j = omega arith in ap (λ a. count_of a (points_in slots)) next ∙ slots-count (suc k) j slots (behind k None slots stand)
  slots-count k zero (Some v ∷ slots) stand =
      let here = (stand 0 v refl).1 in
      let all = count-all (length (view_at v)) (entries_of (view_at v)) (has-arity v) in
      let same : count_of (k + 0) (entries_of (view_at v)) ≡ length (entries_of (view_at v)) = ap (λ a. count_of a (entries_of (view_at v))) (sym here) ∙ all in
      omega (
        arith,
        count-append (k + 0) (entries_of (view_at v)) (points_in slots),
        same,
        length-map (points_by names (measure_count schema) (view_at v) facts) entry_of,
        slots-none (k + 0) (suc k) slots (behind k (Some v) slots stand) (omega arith),
      )
  slots-count k (suc j) (Some v ∷ slots) stand =
      let here = (stand 0 v refl).1 in
      let none = count-none (k + suc j) (length (view_at v)) (entries_of (view_at v)) (has-arity v) (λ is. omega (arith, is, here)) in
      let next : k + suc j ≡ suc k + j = omega arith in
      let rest : count_of (k + suc j) (points_in slots) ≡ slot_count (get_or slots j None) = ap (λ a. count_of a (points_in slots)) next ∙ slots-count (suc k) j slots (behind k (Some v) slots stand) in
      omega (arith, count-append (k + suc j) (entries_of (view_at v)) (points_in slots), none, rest)

  pub slots-filter : (k j v : ℕ) (slots : List (Option ℕ)) → Stand k slots → get_or slots j None ≡ Some v → filter (λ (e : Entry). e.point.arity == (k + j)) (points_in slots) ≡ entries_of (view_at v)
  slots-filter k j v [] stand there = cc
  slots-filter k zero v (None ∷ slots) stand there = cc
  slots-filter k (suc j) v (None ∷ slots) stand there = let next : k + suc j ≡ suc k + j = omega arith in
      ap (λ a. filter (λ (e : Entry). e.point.arity == a) (points_in slots)) next ∙ slots-filter (suc k) j v slots (behind k None slots stand) there
  slots-filter k zero v (Some w ∷ slots) stand there =
      let here = (stand 0 w refl).1 in
      let es : List Entry = entries_of (view_at w) in
      let same : filter (λ (e : Entry). e.point.arity == (k + 0)) es ≡ es = ap (λ a. filter (λ (e : Entry). e.point.arity == a) es) (sym here) ∙ filter-all (length (view_at w)) es (has-arity w) in
      filter-append (λ (e : Entry). e.point.arity == (k + 0)) es (points_in slots)
      ∙ ((λ i. same i ++ slots-filter-none (k + 0) (suc k) slots (behind k (Some w) slots stand) (omega arith) i)
      ∙ (append-nil es ∙ ap (λ o. some-entries o) there))
    where
      some-entries : Option ℕ → List Entry
      some-entries (Some v) = entries_of (view_at v)
      some-entries None = []
  slots-filter k (suc j) v (Some w ∷ slots) stand there =
      let here = (stand 0 w refl).1 in
      let es : List Entry = entries_of (view_at w) in
      let next : k + suc j ≡ suc k + j = omega arith in
      let none = filter-none (k + suc j) (length (view_at w)) es (has-arity w) (λ is. omega (arith, is, here)) in
      filter-append (λ (e : Entry). e.point.arity == (k + suc j)) es (points_in slots)
      ∙ ((λ i. none i ++ filter (λ (e : Entry). e.point.arity == next i) (points_in slots)) ∙ slots-filter (suc k) j v slots (behind k (Some w) slots stand) there)
