-- The points of facts that lie in the region of a slice: they are sound, and their rows are those of the facts.
use Rattle.std.proofs.Common.{◌≡◌, ℕ, ◌-◌, ◌^◌, ◌<◌, ◌≤◌, Bool, true, List, [], ◌∷◌, map, filter, length, replicate, Some, unwrap_or, is_some, refl, sym, ◌∙◌, ap, subst, arith, inl, inr}
use Rattle.std.proofs.lemmas.Bool.{cases_lt}
use Rattle.std.proofs.lemmas.List.{get_or_past}
use Rattle.std.specs.List.{All, AllByRecursion, list_all}
use Rattle.std.specs.Str.{bytes_eq}
use Rattle.fact_model.specs.declared.cell.Cell.{Cell}
use Rattle.fact_model.specs.declared.fact.Fact.{Fact}
use Rattle.fact_model.specs.declared.fact.Value.{Value}
use Rattle.fact_model.specs.declared.fact.Value.TheVariants.{Word, Number}
use Rattle.fact_model.specs.declared.slice.Slice.{Slice}
use Rattle.fact_model.specs.Cell.{cell_of, join}
use Rattle.fact_model.specs.Distinct.{distinct}
use Rattle.fact_model.specs.Fact.{value_at}
use Rattle.fact_model.specs.Groups.{groups, having}
use Rattle.fact_model.specs.Rows.{rows}
use Rattle.fact_model.specs.Value.{Key, key_cmp}
use Rattle.fact_model.proofs.ValueOrder.{key_cmp-IsAntisymmetric, key-total}
use Rattle.cube_schema.specs.declared.Kind.{Kind}
use Rattle.cube_schema.specs.declared.Kind.TheVariants as kind
use Rattle.cube_schema.specs.Agreeing.{IsOfKind}
use Rattle.cube_schema.specs.Kinds.{is_word_kind}
use Rattle.cube_point.specs.Points.{point_cmp}
use Rattle.spec_points.specs.Agree.{AgreesFact, InRange, IsCoded, among, is_text}
use Rattle.spec_points.specs.Answer.{coordinate, inside, joined, key_at, region, row_from, top_coord}
use Rattle.spec_points.specs.Codes.{Text, value_in}
use Rattle.spec_points.specs.Entries.{entry_of, pair_of}
use Rattle.spec_points.specs.Points.{Names, PlacedCell, View, coord, place_of, points_by}
use Rattle.spec_points.specs.Weights.{count_in, size_at}
use Rattle.spec_points.proofs.Answers.{answer-rows, coordinate-of}
use Rattle.spec_points.proofs.Cells.{join-comm, join-assoc}
use Rattle.spec_points.proofs.Codes.{value-of-code}
use Rattle.spec_points.proofs.Members.{All-map, every-both, every-filter, every-from_All, every-map, list_all-every}
use Rattle.spec_points.proofs.Ranges.{place-below}
use Rattle.row_fold.proofs.Regroup.{cell-law, grouped-same, groups-grouped}
use Rattle.spec_points.proofs.Sums.{counts-all, points-mass, weight-filter}
use Rattle.attr_dict.specs.Admitting.{Agrees}
use Rattle.attr_dict.specs.Book.{Book, kind_at, names_at, value_of}
use Rattle.spec_points.specs.Light.{IsLight, KeepMasses}
use Rattle.spec_points.proofs.Light.{light-fits, light-join}
use Rattle.view_region.specs.Regions.{is_word}
use Rattle.slice_rows.specs.Grouped.{AllJoin, AllJoinTo, Answers, group_key, has_values, points_inside, rows_from}
use Rattle.slice_rows.proofs.CodedValues.{code-is, value-told}
use Rattle.slice_rows.proofs.GroupKeys.{every-group}

-- ---- values of facts

kind-text : (k : Kind) (v : Value) → IsOfKind k v → is_text v ≡ is_word_kind k
kind-text (kind.Word max) (Word t) of = refl
kind-text (kind.Word max) (Number n) of = absurd of
kind-text kind.Number (Word t) of = absurd of
kind-text kind.Number (Number n) of = refl

kind-range : (k : Kind) (ts : List Text) (v : Value) → IsOfKind k v → length ts < 2 ^ 32 → coord ts v ≤ top_coord
kind-range (kind.Word max) ts (Word t) of few = omega (arith, place-below bytes_eq t ts)
kind-range (kind.Word max) ts (Number n) of few = absurd of
kind-range kind.Number ts (Word t) of few = absurd of
kind-range kind.Number ts (Number n) of few = omega (arith, of)

module _ (b : Book) where
  -- an attribute past those that there are is the number 0
  value-kind : (x : Fact) → Agrees b.kinds x → (a : ℕ) → IsOfKind (kind_at b a) (value_at x a)
  value-kind x agrees a = elim (cases_lt a (length b.kinds)) [
    | inl low ↦ agrees.each a low
    | inr high ↦
        let zero_value : IsOfKind kind.Number (Number 0) = omega arith in
        subst (λ (k : Kind). IsOfKind k (value_at x a)) (sym (get_or_past b.kinds a kind.Number high))
        (subst (λ (v : Value). IsOfKind kind.Number v) (sym (get_or_past x.values a (Number 0) (omega (arith, agrees.values)))) zero_value)
  ]

  pub facts-kinds : (facts : List Fact) → All (Agrees b.kinds) facts → All (AgreesFact (is_word b)) facts
  facts-kinds facts agree = All-map (Agrees b.kinds) (AgreesFact (is_word b)) (λ x agrees a. kind-text (kind_at b a) (value_at x a) (value-kind x agrees a)) facts agree

  pub facts-ranges : ((a : ℕ) → length (names_at b a) < 2 ^ 32) → (facts : List Fact) → All (Agrees b.kinds) facts → All (InRange (names_at b)) facts
  facts-ranges few facts agree =
      All-map (Agrees b.kinds) (InRange (names_at b)) (λ x agrees a. kind-range (kind_at b a) (names_at b a) (value_at x a) (value-kind x agrees a) (few a)) facts agree

  module _ (view : View) where
    -- the coordinates of a place stand for values, by the kinds of the attributes and by whether they are texts
    record StandsFor (place : List ℕ) (a : ℕ) : Type 0 where
      value : Value
      by_kind : value_of b a (coordinate view place a) ≡ Some value
      by_text : value_in (is_word b a) (names_at b a) (coordinate view place a) ≡ Some value

    abbrev AllStand : List ℕ → Type 0
    AllStand place = (a : ℕ) → among view a ≡ true → StandsFor place a

    fact-stands : (x : Fact) → Agrees b.kinds x × IsCoded (names_at b) x → AllStand (place_of (names_at b) view x)
    fact-stands x are a member =
        let names = names_at b in
        let f : ℕ → ℕ = λ a. coord (names a) (value_at x a) in
        let here = coordinate-of f view (replicate (8 - length (map f view)) 0) a member in
        let v = value_at x a in
        let of = value-kind x are.0 a in
        record {
          value = v;
          by_kind = ap (value_of b a) here ∙ value-told (kind_at b a) (names a) v of (are.1 a);
          by_text = (λ i. value_in (sym (kind-text (kind_at b a) v of) i) (names a) (here i)) ∙ value-of-code (names a) v (coord (names a) v) (code-is (names a) v (are.1 a));
        }

    -- ---- keys

    keys-same : (group place : List ℕ) → AllByRecursion (λ a. among view a ≡ true) group → AllStand place
        → group_key b view group place ≡ key_at (is_word b) (names_at b) view group place
    keys-same [] place members stand = refl
    keys-same (a ∷ group) place members stand =
        let at = stand a members.0 in
        let here = ap (λ o. unwrap_or o (Number 0)) at.by_kind ∙ sym (ap (λ o. unwrap_or o (Number 0)) at.by_text) in
        λ i. here i ∷ keys-same group place members.1 stand i

    values-known : (group place : List ℕ) → AllByRecursion (λ a. among view a ≡ true) group → AllStand place
        → AllByRecursion (λ a. is_some (value_of b a (coordinate view place a)) ≡ true) group
    values-known [] place members stand = tt
    values-known (a ∷ group) place members stand = (ap is_some (stand a members.0).by_kind, values-known group place members.1 stand)

    entries-known : (group : List ℕ) (ps : List PlacedCell) → AllByRecursion (λ a. among view a ≡ true) group → AllByRecursion (λ (e : PlacedCell). AllStand e.0) ps
        → list_all (has_values b view group) (map entry_of ps) ≡ true
    entries-known group ps members stand = list_all-every (has_values b view group) (map entry_of ps) (each ps stand)
      where
        each : (ps : List PlacedCell) → AllByRecursion (λ (e : PlacedCell). AllStand e.0) ps → AllByRecursion (λ e. has_values b view group e ≡ true) (map entry_of ps)
        each [] stand = tt
        each (e ∷ ps) stand =
            (list_all-every (λ a. is_some (value_of b a (coordinate view e.0 a))) group (values-known group e.0 members stand.0), each ps stand.1)

pub pairs-back : (ps : List PlacedCell) → map pair_of (map entry_of ps) ≡ ps
pairs-back [] = refl
pairs-back (e ∷ ps) = ap (λ es. e ∷ es) (pairs-back ps)

-- groups by keys that agree on the points
groups-same : (f g : PlacedCell → Key) (ps : List PlacedCell) → AllByRecursion (λ e. f e ≡ g e) ps → groups key_cmp f joined ps ≡ groups key_cmp g joined ps
groups-same f g ps same =
    let one : PlacedCell → Cell = λ e. e.1 in
    let law = cell-law join one joined (λ e. refl) (λ e f es. refl) in
    groups-grouped key_cmp key-total key_cmp-IsAntisymmetric join join-comm join-assoc f one joined law ps
    ∙ (grouped-same key_cmp join f g one ps same
    ∙ sym (groups-grouped key_cmp key-total key_cmp-IsAntisymmetric join join-comm join-assoc g one joined law ps))

-- ---- cells

module _ (n : ℕ) where
  all-joins : (e : PlacedCell) (es : List PlacedCell) → IsLight n (e ∷ es) → AllJoinTo e.1 (map (λ (e : PlacedCell). e.1) es)
  all-joins e [] light = tt
  all-joins e (d ∷ es) light =
      let both : PlacedCell = (e.0, join e.1 d.1) in
      (record { measures = light.same.0 ∙ sym light.same.1.0; fit = light-fits n e d es light }, all-joins both es (light-join n e d both es light refl))

  pub light-joins : (es : List PlacedCell) → IsLight n es → AllJoin (map (λ (e : PlacedCell). e.1) es)
  light-joins [] light = tt
  light-joins (e ∷ es) light = all-joins e es light

  -- some of light cells are light
  pub light-filter : (p : PlacedCell → Bool) (es : List PlacedCell) → IsLight n es → IsLight n (filter p es)
  light-filter p es light = record {
    masses = λ m low. omega (arith, weight-filter (size_at m) p es, light.masses m low);
    count = omega (arith, weight-filter count_in p es, light.count);
    same = every-filter (λ (e : PlacedCell). e.1.measures ≡ n) p es light.same;
  }

  pub points-light : (names : Names) (view : View) (facts : List Fact) → KeepMasses facts → length facts < 2 ^ 64 → IsLight n (points_by names n view facts)
  points-light names view facts masses few = record {
    masses = λ m low. omega (arith, points-mass names n view facts m low, masses m low);
    count = omega (arith, counts-all names n view facts);
    same = each (distinct point_cmp (map (place_of names view) facts));
  }
    where
      each : (ks : List (List ℕ)) → AllByRecursion (λ (e : PlacedCell). e.1.measures ≡ n) (map (λ k. (k, cell_of n (having point_cmp (place_of names view) k facts))) ks)
      each [] = tt
      each (k ∷ ks) = (refl, each ks)

-- ---- points of facts in the region of a slice

module _ (b : Book) (view : View) (s : Slice) (n : ℕ) (facts : List Fact) (are : Answers b view s facts) where
  abbrev pub test : PlacedCell → Bool
  test e = inside (region (names_at b) s.conds view) e.0

  abbrev pub kept : List PlacedCell
  kept = filter test (points_by (names_at b) n view facts)

  members : AllByRecursion (λ a. among view a ≡ true) s.group
  members = every-from_All (λ a. among view a ≡ true) s.group are.covers.group

  stand : AllByRecursion (λ (e : PlacedCell). AllStand b view e.0) kept
  stand =
      let P : Fact → Type 0 = λ x. Agrees b.kinds x × IsCoded (names_at b) x in
      let all = every-both (Agrees b.kinds) (IsCoded (names_at b)) facts (every-from_All (Agrees b.kinds) facts are.agree) (every-from_All (IsCoded (names_at b)) facts are.known) in
      let places = every-map P (λ x. AllStand b view (place_of (names_at b) view x)) (fact-stands b view) facts all in
      every-filter (λ (e : PlacedCell). AllStand b view e.0) test (points_by (names_at b) n view facts)
      (every-group point_cmp (AllStand b view) (place_of (names_at b) view) (cell_of n) facts places)

  -- their rows are those of the facts
  pub rows-of_facts : ((a : ℕ) → length (names_at b a) < 2 ^ 32) → rows_from b view s (points_inside b n view s facts) ≡ rows facts s
  rows-of_facts few =
      let own : PlacedCell → Key = λ e. group_key b view s.group e.0 in
      let theirs : PlacedCell → Key = λ e. key_at (is_word b) (names_at b) view s.group e.0 in
      let same = every-map (λ (e : PlacedCell). AllStand b view e.0) (λ e. own e ≡ theirs e) (λ e at. keys-same b view s.group e.0 members at) kept stand in
      ap (λ ps. map (row_from s.columns) (groups key_cmp own joined ps)) (pairs-back kept)
      ∙ (ap (map (row_from s.columns)) (groups-same own theirs kept same)
      ∙ answer-rows (is_word b) (names_at b) n view s are.slice are.covers facts are.known (facts-kinds b facts are.agree) (facts-ranges b few facts are.agree))

  -- they are light
  pub inside-light : KeepMasses facts → length facts < 2 ^ 64 → IsLight n kept
  inside-light masses few = light-filter n test (points_by (names_at b) n view facts) (points-light n (names_at b) view facts masses few)

  -- their grouped coordinates stand for values
  pub inside-known : list_all (has_values b view s.group) (points_inside b n view s facts) ≡ true
  inside-known = entries-known b view s.group kept members stand
