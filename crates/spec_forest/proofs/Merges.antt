-- The points of a tree over more facts: the old ones merged with those of a batch, whose cells join.
use Rattle.std.proofs.Common.{◌≡◌, ℕ, ◌+◌, ◌<◌, ◌≤◌, ◌^◌, List, [], ◌∷◌, ◌++◌, map, length, refl, sym, ◌∙◌, ap, subst, inl, inr, arith, length-append}
use Rattle.std.specs.List.{All, AllByRecursion}
use Rattle.std.specs.declared.cmp.Ordering.TheVariants.{Less, Equal, Greater}
use Rattle.fact_model.specs.declared.cell.Cell.{Cell}
use Rattle.fact_model.specs.declared.fact.Fact.{Fact}
use Rattle.fact_model.specs.Fact.{mass_limit}
use Rattle.fact_model.specs.Cell.{SumFitsAt, FitCells}
use Rattle.cube_point.specs.Points.{point_cmp}
use Rattle.cube_schema.specs.declared.schema.Schema.{Schema}
use Rattle.cube_schema.specs.Kinds.{measure_count}
use Rattle.spec_points.specs.Agree.{IsCoded}
use Rattle.spec_points.specs.Arity.{HasArity}
use Rattle.spec_points.specs.Codes.{names_of}
use Rattle.spec_points.specs.Entries.{entry_of, pair_of}
use Rattle.row_fold.specs.Merge.{together}
use Rattle.spec_points.specs.Merge.{merge_points}
use Rattle.spec_points.specs.Points.{View, PlacedCell, Names, Rises, points_by, tree_by, tree_points}
use Rattle.spec_points.specs.Weights.{weight, size_at, count_in}
use Rattle.spec_points.proofs.Arities.{Keyed, arity-first, each-arity}
use Rattle.cube_point.proofs.PointOrder.{point-total, point-only}
use Rattle.row_fold.proofs.Groups.{cases_Ordering, greater-from_less}
use Rattle.spec_points.proofs.Members.{every-map, every-append, All-from_every}
use Rattle.row_fold.proofs.Merges.{entries-new}
use Rattle.spec_points.proofs.Sums.{mass-append, points-mass, counts-all}
use Rattle.spec_points.proofs.Trees.{rises-head, rises-tail, tree-merge}
use Rattle.spec_points.specs.Light.{KeepMasses}
use Rattle.delta_agg.specs.Joins.{Meeting, alone, Joins, AllJoin, merged_entries}
use Rattle.spec_points.proofs.Light.{sum-fits}
use Rattle.delta_agg.proofs.Merging.{no-new, together-less, together-greater, together-equal}
use Rattle.tree_pack.specs.Pages.{joined}
use Rattle.spec_forest.proofs.Trees.{over, joined-points}

pairs-back : (es : List PlacedCell) → map pair_of (map entry_of es) ≡ es
pairs-back [] = refl
pairs-back (e ∷ es) = ap (λ r. e ∷ r) (pairs-back es)

-- the points of a tree over all facts are the old ones, merged with those of the batch by all names
pub tree-merged : (schema : Schema) (old new : List Fact) (views : List View) → Rises views
    → joined (over (names_of (old ++ new)) schema (old ++ new) views) ≡ merged_entries (joined (over (names_of old) schema old views)) (map entry_of (tree_by (names_of (old ++ new)) (measure_count schema) views new))
tree-merged schema old new views h =
    joined-points (names_of (old ++ new)) schema (old ++ new) views ∙ (ap (map entry_of) (tree-merge (measure_count schema) views old new h)
    ∙ (λ i. map entry_of (merge_points (sym (ap (map pair_of) (joined-points (names_of old) schema old views) ∙ pairs-back (tree_points (measure_count schema) views old)) i) (sym (pairs-back (tree_by (names_of (old ++ new)) (measure_count schema) views new)) i))))

-- ---- cells of one place join

abbrev Fits : Meeting → Type 0
Fits met = Joins met.1

abbrev beside : List Cell → List Cell → List Cell
beside cells more = cells ++ more

-- a pair as its entry stands alone
abbrev solo : PlacedCell → Meeting
solo e = (e.0, e.1 ∷ [])

-- where both have one place, their cells fit
abbrev FitTogether : PlacedCell → PlacedCell → Type 0
FitTogether e d = point_cmp e.0 d.0 ≡ Equal → FitCells e.1 d.1

-- each of the first with each of the second
abbrev AllFit : List PlacedCell → List PlacedCell → Type 0
AllFit es ds = AllByRecursion (λ e. AllByRecursion (FitTogether e) ds) es

without-first : (d : PlacedCell) (es ds : List PlacedCell) → AllFit es (d ∷ ds) → AllFit es ds
without-first d es ds h = every-map (λ e. AllByRecursion (FitTogether e) (d ∷ ds)) (λ e. AllByRecursion (FitTogether e) ds) (λ e fit. fit.1) es h

solos : (es : List PlacedCell) → AllByRecursion Fits (map solo es)
solos [] = tt
solos (e ∷ es) = (tt, solos es)

join-one : (e : PlacedCell) (es : List PlacedCell) → ((ds : List PlacedCell) → AllFit es ds → AllByRecursion Fits (together point_cmp beside (map solo es) (map solo ds)))
    → (ds : List PlacedCell) → AllFit (e ∷ es) ds → AllByRecursion Fits (together point_cmp beside (map solo (e ∷ es)) (map solo ds))
join-one e es rest [] fit = subst (AllByRecursion Fits) (sym (no-new point_cmp beside (map solo (e ∷ es)))) (solos (e ∷ es))
join-one e es rest (d ∷ ds) fit = elim (cases_Ordering (point_cmp e.0 d.0)) [
  | inl r ↦ subst (AllByRecursion Fits) (sym (together-less beside (solo e) (solo d) (map solo es) (map solo ds) r)) (tt, rest (d ∷ ds) fit.1)
  | inr (inl r) ↦ subst (AllByRecursion Fits) (sym (together-equal beside (solo e) (solo d) (map solo es) (map solo ds) r)) (fit.0.0 r, rest ds (without-first d es ds fit.1))
  | inr (inr r) ↦ subst (AllByRecursion Fits) (sym (together-greater beside (solo e) (solo d) (map solo es) (map solo ds) r))
      (tt, join-one e es rest ds (fit.0.1, without-first d es ds fit.1))
]

join-all : (es ds : List PlacedCell) → AllFit es ds → AllByRecursion Fits (together point_cmp beside (map solo es) (map solo ds))
join-all [] ds fit = subst (AllByRecursion Fits) (sym (entries-new (map solo ds))) (solos ds)
join-all (e ∷ es) ds fit = join-one e es (λ ds fit. join-all es ds fit) ds fit

alone-are : (es : List PlacedCell) → map alone (map entry_of es) ≡ map solo es
alone-are [] = refl
alone-are (e ∷ es) = ap (λ r. solo e ∷ r) (alone-are es)

-- ---- in one view all cells fit together

-- both lists together are light
record AreLight (es ds : List PlacedCell) : Type 0 where
  masses : (m : ℕ) → m < 4 → weight (size_at m) es + weight (size_at m) ds ≤ mass_limit
  count : weight count_in es + weight count_in ds < 2 ^ 64

pair-fits : (e d : PlacedCell) (es ds : List PlacedCell) → AreLight (e ∷ es) (d ∷ ds) → FitCells e.1 d.1
pair-fits e d es ds light =
    record { count = omega (arith, light.count); first = at 0 (omega arith); second = at 1 (omega arith); third = at 2 (omega arith); fourth = at 3 (omega arith) }
  where
    at : (m : ℕ) → m < 4 → SumFitsAt e.1 d.1 m
    at m l = sum-fits e.1 d.1 m (omega (arith, light.masses m l))

light-one : (e : PlacedCell) (es ds : List PlacedCell) → AreLight (e ∷ es) ds → AllByRecursion (FitTogether e) ds
light-one e es [] light = tt
light-one e es (d ∷ ds) light = ((λ same. pair-fits e d es ds light), light-one e es ds (record { masses = λ m l. omega (arith, light.masses m l); count = omega (arith, light.count) }))

light-all : (es ds : List PlacedCell) → AreLight es ds → AllFit es ds
light-all [] ds light = tt
light-all (e ∷ es) ds light = (light-one e es ds light, light-all es ds (record { masses = λ m l. omega (arith, light.masses m l); count = omega (arith, light.count) }))

-- ---- in different views no places are the same

-- the place has more used coordinates than this
abbrev More : ℕ → List ℕ → Type 0
More m k = (n : ℕ) × (m < n) × (n ≤ 8) × HasArity n k

module _ (names : Names) (n : ℕ) where
  later : (v : View) (vs : List View) (facts : List Fact) → Rises (v ∷ vs) → AllByRecursion (IsCoded names) facts → Keyed (More (length v)) (tree_by names n vs facts)
  later v [] facts h c = tt
  later v (w ∷ vs) facts h c = every-append (λ e. More (length v) e.0) (points_by names n w facts) (tree_by names n vs facts)
      (every-map (λ e. HasArity (length w) e.0) (λ e. More (length v) e.0) (λ e p. (length w, h.0, rises-head w vs h.1, p)) (points_by names n w facts) (each-arity names n w facts c))
      (every-map (λ e. More (length w) e.0) (λ e. More (length v) e.0) (λ e p. (p.0, omega (arith, h.0, p.1), p.2, p.3)) (tree_by names n vs facts) (later w vs facts h.1 c))

not-equal : (d e : PlacedCell) (m : ℕ) → HasArity m d.0 → More m e.0 → FitTogether d e × FitTogether e d
not-equal d e m p q =
    let less : point_cmp d.0 e.0 ≡ Less = arity-first m q.0 d.0 e.0 q.1 q.2 p q.3 in
    let greater : point_cmp e.0 d.0 ≡ Greater = greater-from_less point_cmp point-total point-only d.0 e.0 less in
    ((λ same. absurd (less≢equal (sym less ∙ same))), (λ same. absurd (greater≢equal (sym greater ∙ same))))
  where
    less≢equal : Less ≡ Equal → ⊥
    less≢equal e = cc

    greater≢equal : Greater ≡ Equal → ⊥
    greater≢equal e = cc

first-apart : (m : ℕ) (es ds : List PlacedCell) → Keyed (HasArity m) es → Keyed (More m) ds → AllFit es ds
first-apart m es ds h k = every-map (λ e. HasArity m e.0) (λ e. AllByRecursion (FitTogether e) ds) (λ e p. every-map (λ d. More m d.0) (FitTogether e) (λ d q. (not-equal e d m p q).0) ds k) es h

last-apart : (m : ℕ) (es ds : List PlacedCell) → Keyed (More m) es → Keyed (HasArity m) ds → AllFit es ds
last-apart m es ds h k = every-map (λ e. More m e.0) (λ e. AllByRecursion (FitTogether e) ds) (λ e p. every-map (λ d. HasArity m d.0) (FitTogether e) (λ d q. (not-equal d e m q p).1) ds k) es h

fit-append : (es ds fs : List PlacedCell) → AllFit es ds → AllFit es fs → AllFit es (ds ++ fs)
fit-append [] ds fs h k = tt
fit-append (e ∷ es) ds fs h k = (every-append (FitTogether e) ds fs h.0 k.0, fit-append es ds fs h.1 k.1)

-- ---- all cells of a tree join

module _ (names : Names) (n : ℕ) (xs ys : List Fact) (masses : KeepMasses (xs ++ ys)) (few : length (xs ++ ys) ≤ 2 ^ 40)
    (old : AllByRecursion (IsCoded names) xs) (new : AllByRecursion (IsCoded names) ys) where
  tree-fits : (views : List View) → Rises views → AllFit (tree_by names n views xs) (tree_by names n views ys)
  tree-fits [] h = tt
  tree-fits (v ∷ vs) h =
      let es : List PlacedCell = points_by names n v xs in
      let ds : List PlacedCell = points_by names n v ys in
      every-append (λ e. AllByRecursion (FitTogether e) (tree_by names n (v ∷ vs) ys)) es (tree_by names n vs xs)
      (fit-append es ds (tree_by names n vs ys)
      (light-all es ds (record {
        masses = λ m l. omega (arith, points-mass names n v xs m l, points-mass names n v ys m l, mass-append m xs ys, masses m l);
        count = omega (arith, counts-all names n v xs, counts-all names n v ys, length-append xs ys);
      }))
      (first-apart (length v) es (tree_by names n vs ys) (each-arity names n v xs old) (later names n v vs ys h new)))
      (fit-append (tree_by names n vs xs) ds (tree_by names n vs ys)
      (last-apart (length v) (tree_by names n vs xs) ds (later names n v vs xs h old) (each-arity names n v ys new))
      (tree-fits vs (rises-tail v vs h)))

  -- the cells of the points of a tree over two lists of facts join
  pub tree-join : (views : List View) → Rises views → AllJoin (map entry_of (tree_by names n views xs)) (map entry_of (tree_by names n views ys))
  tree-join views h =
      let es : List PlacedCell = tree_by names n views xs in
      let ds : List PlacedCell = tree_by names n views ys in
      subst (All Fits) (λ i. together point_cmp beside (sym (alone-are es) i) (sym (alone-are ds) i))
      (All-from_every Fits (together point_cmp beside (map solo es) (map solo ds)) (join-all es ds (tree-fits views h)))
