-- The answer from the points of a covering view is the rows of the facts.
use Rattle.std.proofs.Common.{◌≡◌, ℕ, zero, suc, ◌-◌, ◌<◌, ◌==◌, ◌||◌, Bool, true, cond, List, [], ◌∷◌, ◌++◌, map, length, filter, replicate, get_or, Option, Some, None, unwrap_or, is_some, refl, sym, ◌∙◌, ap, arith, true≢false, inl, inr}
use Rattle.std.proofs.lemmas.Bool.{cases_Bool, eqb-true}
use Rattle.std.specs.List.{All, AllByRecursion}
use Rattle.fact_model.specs.declared.fact.Value.{Value}
use Rattle.fact_model.specs.declared.fact.Value.TheVariants.{Number}
use Rattle.fact_model.specs.declared.fact.Fact.{Fact}
use Rattle.fact_model.specs.declared.cell.Part.{Part}
use Rattle.fact_model.specs.declared.slice.Column.{Column}
use Rattle.fact_model.specs.declared.slice.Column.TheVariants.{Count, Sum, Min, Max}
use Rattle.fact_model.specs.declared.slice.Slice.{Slice}
use Rattle.fact_model.specs.Distinct.{distinct}
use Rattle.fact_model.specs.Value.{Key, key_cmp}
use Rattle.fact_model.specs.Fact.{value_at, key_of, numbers_at}
use Rattle.fact_model.specs.Cell.{part_of, join, cell_of}
use Rattle.fact_model.specs.Groups.{having}
use Rattle.fact_model.specs.Slice.{attr_of, holds}
use Rattle.fact_model.specs.Rows.{number_of, rows, as_row, numbers_of}
use Rattle.fact_model.proofs.ValueOrder.{key_cmp-IsAntisymmetric, key-total}
use Rattle.cube_point.specs.Points.{point_cmp}
use Rattle.cube_point.proofs.PointOrder.{point-total, point-only}
use Rattle.spec_points.specs.Codes.{Text, code_in, value_in, names_of}
use Rattle.spec_points.specs.Points.{Names, coord, place_of, points_by, points, View, PlacedCell}
use Rattle.spec_points.specs.Answer.{region, inside, coordinate, key_at, joined, column_of, row_from, answer}
use Rattle.spec_points.specs.Agree.{among, AgreesCond, is_text, AgreesFact, InRange, AgreesColumn, AgreesSlice, Covers, HasCode, IsCoded}
use Rattle.row_fold.proofs.Grouping.{grouped}
use Rattle.spec_points.proofs.Members.{every-map, every-filter, filter-same, every-both, every-from_All}
use Rattle.row_fold.proofs.Regroup.{grouped-same, groups-grouped, cell-law, regroup}
use Rattle.spec_points.proofs.Cells.{join-comm, join-assoc, one_cell, cell-of-facts}
use Rattle.spec_points.proofs.Codes.{value-of-code, own-names_left}
use Rattle.spec_points.proofs.Points.{points-grouped, points-kept}
use Rattle.spec_points.proofs.Regions.{inside-holds}

-- the coordinate of an attribute at a place that the view makes
pub coordinate-of : (f : ℕ → ℕ) (view zs : List ℕ) (a : ℕ) → among view a ≡ true → coordinate view (map f view ++ zs) a ≡ f a
coordinate-of f [] zs a m = absurd (true≢false (sym m))
coordinate-of f (v ∷ view) zs a m = elim (cases_Bool (v == a)) [
  | inl e ↦ ap (λ (b : Bool). cond b (f v) (coordinate view (map f view ++ zs) a)) e ∙ ap f (eqb-true v a e)
  | inr e ↦ ap (λ (b : Bool). cond b (f v) (coordinate view (map f view ++ zs) a)) e ∙ coordinate-of f view zs a (ap (λ (b : Bool). b || among view a) (sym e) ∙ m)
]

-- a value comes back from its coordinate
value-back : (ts : List Text) (v : Value) (b : Bool) → HasCode ts v → is_text v ≡ b → unwrap_or (value_in b ts (coord ts v)) (Number 0) ≡ v
value-back ts v b h k = by (code_in ts v) refl h
  where
    by : (o : Option ℕ) → code_in ts v ≡ o → is_some o ≡ true → unwrap_or (value_in b ts (coord ts v)) (Number 0) ≡ v
    by None p q = absurd (true≢false (sym q))
    by (Some c) p q = (λ i. unwrap_or (value_in (sym k i) ts (unwrap_or (p i) 0)) (Number 0)) ∙ ap (λ o. unwrap_or o (Number 0)) (value-of-code ts v c p)

-- the key of a place is that of its facts
key-back : (text : ℕ → Bool) (ns : Names) (view group : List ℕ) (x : Fact) → AllByRecursion (λ a. among view a ≡ true) group → IsCoded ns x → AgreesFact text x → key_at text ns view group (place_of ns view x) ≡ key_of group x
key-back text ns view [] x m c k = refl
key-back text ns view (a ∷ group) x m c k =
    (λ i. (ap (λ z. unwrap_or (value_in (text a) (ns a) z) (Number 0)) (coordinate-of (λ a. coord (ns a) (value_at x a)) view (replicate (8 - length (map (λ a. coord (ns a) (value_at x a)) view)) 0) a m.0)
    ∙ value-back (ns a) (value_at x a) (text a) (c a) (k a)) i ∷ key-back text ns view group x m.1 c k i)

-- ---- columns

-- one of four
pub four : {A : Type 0} (f : ℕ → A) (m : ℕ) (d : A) → m < 4 → get_or (map f (0 ∷ 1 ∷ 2 ∷ 3 ∷ [])) m d ≡ f m
four f zero d l = refl
four f (suc zero) d l = refl
four f (suc (suc zero)) d l = refl
four f (suc (suc (suc zero))) d l = refl
four f (suc (suc (suc (suc m)))) d l = absurd (omega arith)

column-of : (n : ℕ) (facts : List Fact) (c : Column) → AgreesColumn c → column_of (cell_of n facts) c ≡ number_of facts c
column-of n facts Count h = refl
column-of n facts (Sum m) h = ap (λ (p : Part). p.sum) (four (λ m. part_of (numbers_at m facts)) m (part_of []) h)
column-of n facts (Min m) h = ap (λ (p : Part). p.low) (four (λ m. part_of (numbers_at m facts)) m (part_of []) h)
column-of n facts (Max m) h = ap (λ (p : Part). p.high) (four (λ m. part_of (numbers_at m facts)) m (part_of []) h)

columns-of : (n : ℕ) (facts : List Fact) (cs : List Column) → AllByRecursion AgreesColumn cs → map (column_of (cell_of n facts)) cs ≡ map (number_of facts) cs
columns-of n facts [] h = refl
columns-of n facts (c ∷ cs) h = (λ i. column-of n facts c h.0 i ∷ columns-of n facts cs h.1 i)

rows-of : (n : ℕ) (s : Slice) (facts : List Fact) (keys : List Key) → AllByRecursion AgreesColumn s.columns
    → map (row_from s.columns) (map (λ k. (k, cell_of n (having key_cmp (key_of s.group) k facts))) keys) ≡ map as_row (map (λ k. (k, numbers_of s.columns (having key_cmp (key_of s.group) k facts))) keys)
rows-of n s facts [] h = refl
rows-of n s facts (k ∷ keys) h = (λ i. as_row (k, columns-of n (having key_cmp (key_of s.group) k facts) s.columns h i) ∷ rows-of n s facts keys h i)

-- ---- the answer

module _ (text : ℕ → Bool) (ns : Names) (n : ℕ) (view : View) (s : Slice) (agrees : AgreesSlice text s) (covers : Covers view s) where
  -- for any names that code all facts: the answer from the points is the rows
  pub answer-rows : (facts : List Fact) → All (IsCoded ns) facts → All (AgreesFact text) facts → All (InRange ns) facts → answer text ns view s (points_by ns n view facts) ≡ rows facts s
  answer-rows facts coded kinds ranges =
      let test : List ℕ → Bool = inside (region ns s.conds view) in
      let key : List ℕ → Key = key_at text ns view s.group in
      let kept : List Fact = filter (holds s) facts in
      let all = every-both (IsCoded ns) (λ x. AgreesFact text x × InRange ns x) facts (every-from_All (IsCoded ns) facts coded) (every-both (AgreesFact text) (InRange ns) facts (every-from_All (AgreesFact text) facts kinds) (every-from_All (InRange ns) facts ranges)) in
      let group = every-from_All (λ a. among view a ≡ true) s.group covers.group in
      let bound = every-from_All (λ c. among view (attr_of c) ≡ true) s.conds covers.conds in
      let right = every-from_All (AgreesCond text) s.conds agrees.conds in
      let same-test : AllByRecursion (λ x. test (place_of ns view x) ≡ holds s x) facts
      = every-map _ (λ x. test (place_of ns view x) ≡ holds s x) (λ x h. inside-holds text ns x h.0 h.1.0 h.1.1 view s.conds right agrees.once bound) facts all in
      let same-key : AllByRecursion (λ x. key (place_of ns view x) ≡ key_of s.group x) facts
      = every-map _ (λ x. key (place_of ns view x) ≡ key_of s.group x) (λ x h. key-back text ns view s.group x group h.0 h.1.0) facts all in
      ap (map (row_from s.columns))
      (groups-grouped key_cmp key-total key_cmp-IsAntisymmetric join join-comm join-assoc (λ (e : PlacedCell). key e.0) (λ e. e.1) joined (cell-law join (λ (e : PlacedCell). e.1) joined (λ e. refl) (λ e f es. refl)) (filter (λ e. test e.0) (points_by ns n view facts))
      ∙ (ap (λ es. grouped key_cmp join (λ (e : PlacedCell). key e.0) (λ e. e.1) (filter (λ e. test e.0) es)) (points-grouped ns n view facts)
      ∙ (regroup join join-comm join-assoc point_cmp point-total point-only key_cmp key-total key_cmp-IsAntisymmetric (place_of ns view) (one_cell n) key test facts
      ∙ (ap (grouped key_cmp join (λ x. key (place_of ns view x)) (one_cell n)) (filter-same (λ x. test (place_of ns view x)) (holds s) facts same-test)
      ∙ (grouped-same key_cmp join (λ x. key (place_of ns view x)) (key_of s.group) (one_cell n) kept (every-filter (λ x. key (place_of ns view x) ≡ key_of s.group x) (holds s) facts same-key)
      ∙ sym (groups-grouped key_cmp key-total key_cmp-IsAntisymmetric join join-comm join-assoc (key_of s.group) (one_cell n) (cell_of n) (cell-of-facts n) kept))))))
      ∙ rows-of n s kept (distinct key_cmp (map (key_of s.group) kept)) (every-from_All AgreesColumn s.columns agrees.columns)

-- the names may be those of more facts
pub answer-more_names : (text : ℕ → Bool) (n : ℕ) (view : View) (s : Slice) (xs ys : List Fact) → AgreesSlice text s → Covers view s
    → All (AgreesFact text) xs → All (InRange (names_of (xs ++ ys))) xs → answer text (names_of (xs ++ ys)) view s (points n view xs) ≡ rows xs s
answer-more_names text n view s xs ys a c k r =
    ap (answer text (names_of (xs ++ ys)) view s) (sym (points-kept n view xs ys))
    ∙ answer-rows text (names_of (xs ++ ys)) n view s a c xs (own-names_left xs ys) k r
