-- Points in the order of their keys, joined where they have one key, are the rows of the points.
use Rattle.std.proofs.Common.{◌≡◌, ℕ, zero, suc, nat_le, if◌then◌else◌, ◌+◌, ◌<◌, true, false, Bool, List, [], ◌∷◌, map, get_or, Option, Some, None, unwrap_or, option_map, is_some, slice_get, IsPermutation, refl, sym, ◌∙◌, ap, subst, arith, true≢false}
use Rattle.std.proofs.lemmas.List.{length-map}
use Rattle.std.proofs.lemmas.List.Sorted.{IsPermutation-map}
use Rattle.std.specs.List.{All, AllByRecursion, list_all}
use Rattle.std.specs.List.Sorted.{IsSortedBy}
use Rattle.std.specs.Ordering.{is_gt, is_lt, ordering_reverse}
use Rattle.std.specs.declared.cmp.Ordering.{Ordering}
use Rattle.std.specs.declared.cmp.Ordering.TheVariants.{Less, Equal, Greater}
use Rattle.fact_model.specs.declared.cell.Cell.{Cell}
use Rattle.fact_model.specs.declared.fact.Value.TheVariants.{Word, Number}
use Rattle.fact_model.specs.declared.slice.Slice.{Slice}
use Rattle.fact_model.specs.Cell.{join}
use Rattle.fact_model.specs.Value.{Key, key_cmp}
use Rattle.fact_model.proofs.ValueOrder.{key_cmp-IsAntisymmetric, key-total}
use Rattle.cube_schema.specs.declared.Kind.{Kind}
use Rattle.cube_schema.specs.declared.Kind.TheVariants as kind
use Rattle.cube_schema.specs.Kinds.{is_word_kind}
use Rattle.cube_point.specs.declared.point.Entry.{Entry}
use Rattle.fact_model.specs.Limits.{number_limit}
use Rattle.spec_points.specs.Agree.{among, is_text}
use Rattle.spec_points.specs.Answer.{column_of, coordinate, joined, row_from}
use Rattle.spec_points.specs.Codes.{Text}
use Rattle.spec_points.specs.Entries.{pair_of}
use Rattle.spec_points.specs.Points.{PlacedCell, View}
use Rattle.spec_points.proofs.Cells.{join-comm, join-assoc}
use Rattle.spec_points.proofs.Members.{All-from_every, all-every, every-from_All, in-every}
use Rattle.row_fold.proofs.Regroup.{groups-grouped, cell-law}
use Rattle.row_fold.proofs.Sorts.{InOrder, sorted-grouped}
use Rattle.attr_dict.specs.Book.{Book, kind_at, names_at, value_for, value_of}
use Rattle.view_region.specs.Regions.{is_word}
use Rattle.slice_rows.specs.Grouped.{HasForm, by_key, group_key, has_values, is_before, keyed, rows_from}
use Rattle.slice_rows.proofs.GroupKeys.{every-group}
use Rattle.slice_rows.proofs.KeyTurns.{squeezed_keys}

-- ---- the order of keys

turned : (r : Ordering) → is_gt (ordering_reverse r) ≡ is_lt r
turned Less = refl
turned Equal = refl
turned Greater = refl

no-later : (j k : Key) → is_lt (key_cmp k j) ≡ false → is_gt (key_cmp j k) ≡ false
no-later j k h = ap is_gt (key-total.antisymm j k) ∙ (turned (key_cmp k j) ∙ h)

-- attributes that the view has are declared where the view's are
pub declared : (n : ℕ) (view : View) (group : List ℕ) → All (λ a. a < n) view → All (λ a. among view a ≡ true) group → All (λ a. a < n) group
declared n view group inner members k d low = in-every (λ a. a < n) view (get_or group k d) (every-from_All (λ a. a < n) view inner) (members k d low)

-- ---- values of the right kind

told : (k : Kind) (names : List Text) (code : ℕ) → is_some (value_for k names code) ≡ true → is_text (unwrap_or (value_for k names code) (Number 0)) ≡ is_word_kind k
told (kind.Word max) names zero some = absurd (true≢false (sym some))
told (kind.Word max) names (suc i) some = by (slice_get names i) some
  where
    by : (o : Option Text) → is_some (option_map Word o) ≡ true → is_text (unwrap_or (option_map Word o) (Number 0)) ≡ true
    by None h = absurd (true≢false (sym h))
    by (Some t) h = refl
told kind.Number names zero some = elim (nat_le 0 (suc number_limit)) as (λ (b : Bool). is_text (unwrap_or (if b then None else None) (Number 0)) ≡ false) [ true ↦ refl | false ↦ refl ]
told kind.Number names (suc i) some = elim (nat_le (suc i) (suc number_limit)) as (λ (b : Bool). is_text (unwrap_or (if b then Some (Number i) else None) (Number 0)) ≡ false) [ true ↦ refl | false ↦ refl ]

module _ (b : Book) (view : View) where
  key-kinds : (group : List ℕ) (place : List ℕ) → AllByRecursion (λ a. is_some (value_of b a (coordinate view place a)) ≡ true) group
      → map is_text (group_key b view group place) ≡ map (is_word b) group
  key-kinds [] place some = refl
  key-kinds (a ∷ group) place some = λ i. told (kind_at b a) (names_at b a) (coordinate view place a) some.0 i ∷ key-kinds group place some.1 i

  module _ (group : List ℕ) where
    abbrev key : PlacedCell → Key
    key e = group_key b view group e.0

    -- ---- sorted points

    pub in-order : (es : List Entry) → IsSortedBy (is_before b view group) es → InOrder key_cmp (map (keyed b view group) es)
    in-order [] up = tt
    in-order (e ∷ []) up = tt
    in-order (e ∷ d ∷ es) up = (no-later (key (pair_of e)) (key (pair_of d)) (up 0 e (omega arith) (omega arith)), in-order (d ∷ es) rest)
      where
        next : (k : ℕ) → suc k + 1 ≡ suc (k + 1)
        next k = omega arith

        rest : IsSortedBy (is_before b view group) (d ∷ es)
        rest k x low within =
            subst (λ n. is_before b view group (get_or (e ∷ d ∷ es) n x) (get_or (d ∷ es) k x) ≡ false) (next k) (up (suc k) x (omega arith) (omega arith))

    pairs : (es : List Entry) → map (λ e. (key e, e.1)) (map pair_of es) ≡ map (keyed b view group) es
    pairs [] = refl
    pairs (e ∷ es) = ap (λ ks. keyed b view group e ∷ ks) (pairs es)

    -- sorted points, joined where they have one key, are the points grouped by their keys
    pub sorted-keys : (es sorted : List Entry) → IsPermutation es sorted → IsSortedBy (is_before b view group) sorted
        → squeezed_keys b view group sorted ≡ by_key b view group es
    sorted-keys es sorted moved up =
        let all = IsPermutation-map (keyed b view group) es sorted moved in
        sorted-grouped key_cmp key-total key_cmp-IsAntisymmetric join join-comm join-assoc key (λ (e : PlacedCell). e.1) (map pair_of es) (map (keyed b view group) sorted)
        (subst (λ ks. IsPermutation ks (map (keyed b view group) sorted)) (sym (pairs es)) all) (in-order sorted up)
        ∙ sym (groups-grouped key_cmp key-total key_cmp-IsAntisymmetric join join-comm join-assoc key (λ (e : PlacedCell). e.1) joined
        (cell-law join (λ (e : PlacedCell). e.1) joined (λ e. refl) (λ e f es. refl)) (map pair_of es))

  -- ---- the form of the rows

  module _ (s : Slice) where
    abbrev RightKinds : Key → Type 0
    RightKinds k = map is_text k ≡ map (is_word b) s.group

    all-kinds : (es : List Entry) → AllByRecursion (λ e. has_values b view s.group e ≡ true) es → AllByRecursion (λ (e : PlacedCell). RightKinds (key s.group e)) (map pair_of es)
    all-kinds [] some = tt
    all-kinds (e ∷ es) some =
        (key-kinds s.group e.point.at (all-every (λ a. is_some (value_of b a (coordinate view e.point.at a))) s.group some.0), all-kinds es some.1)

    rows-formed : (ks : List (Key × Cell)) → AllByRecursion (λ (e : Key × Cell). RightKinds e.0) ks → AllByRecursion (HasForm b s) (map (row_from s.columns) ks)
    rows-formed [] kinds = tt
    rows-formed (e ∷ ks) kinds = (record { kinds = kinds.0; numbers = length-map s.columns (column_of e.1) }, rows-formed ks kinds.1)

    pub formed : (es : List Entry) → list_all (has_values b view s.group) es ≡ true → All (HasForm b s) (rows_from b view s es)
    formed es some =
        let each = all-every (has_values b view s.group) es some in
        All-from_every (HasForm b s) (rows_from b view s es)
        (rows-formed (by_key b view s.group es) (every-group key_cmp RightKinds (key s.group) joined (map pair_of es) (all-kinds es each)))
