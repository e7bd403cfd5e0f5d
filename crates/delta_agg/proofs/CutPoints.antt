-- An entry for each run of rows of one place: these are the entries of the rows, those of one place joined.
use Rattle.std.proofs.Common.{◌≡◌, ℕ, zero, suc, ◌+◌, ◌-◌, ◌<◌, ◌≤◌, Bool, true, false, not, ◌||◌, List, [], ◌∷◌, ◌++◌, length, map, get_or, take, drop, refl, sym, ◌∙◌, ap, append_assoc, subst, inl, inr, arith}
use Rattle.std.specs.Prelude.{filter, slice_index}
use Rattle.std.specs.Cmp.{Equal-is}
use Rattle.std.specs.List.{All, range_with_len}
use Rattle.std.specs.Ordering.{is_eq}
use Rattle.std.proofs.lemmas.Bool.{cases_Bool, ne_eqb}
use Rattle.std.proofs.lemmas.List.{drop_all, drop_more, get_or-drop, get_or-map, get_or_append_left, get_or_push, length-drop, length-map, length-take, length_push, map-append, take_more}
use Rattle.std.proofs.lemmas.List.FromFn.{map-range_with_len_more, fill_by_all, get_or-map-range_with_len, length-map-range_with_len}
use Rattle.fact_model.specs.declared.fact.Fact.{Fact}
use Rattle.fact_model.specs.Cell.{cell_of, join}
use Rattle.fact_batch.specs.Batch.{measures_in}
use Rattle.cube_point.specs.declared.point.Entry.{Entry}
use Rattle.cube_point.specs.Points.{point_cmp}
use Rattle.cube_point.proofs.PointOrder.{point-only}
use Rattle.spec_points.specs.Points.{View}
use Rattle.spec_points.specs.Entries.{entry_of, pair_of}
use Rattle.delta_agg.specs.Batch.{HasNumbers, no_fact, row_entry, squeezed_entries}
use Rattle.delta_agg.specs.Orders.{bare, facts_at, run_at, run_entry}
use Rattle.delta_agg.specs.Rows.{begins, cuts_by, row_place, same_place}
use Rattle.delta_agg.proofs.Cuts.{filter-no, filter-yes}
use Rattle.delta_agg.proofs.RowCells.{cell-push}
use Rattle.delta_agg.proofs.Squeezing.{entries-same, entries-other}

-- two functions that agree on the first places give the same list
same-range : {X : Type 0} (f g : ℕ → X) (n : ℕ) → ((k : ℕ) → k < n → f k ≡ g k) → map f (range_with_len 0 n) ≡ map g (range_with_len 0 n)
same-range f g n alike =
    fill_by_all g (map f (range_with_len 0 n)) n (f 0) (length-map-range_with_len f 0 n) (λ k low. get_or-map-range_with_len f 0 n k k (f 0) low (omega arith) ∙ alike k low)

-- ---- runs, one row and one cut more

-- the rows from a place to another
abbrev between : List ℕ → ℕ → ℕ → List ℕ
between order a b = take (b - a) (drop a order)

abbrev last : List ℕ → ℕ
last cuts = get_or cuts (length cuts - 1) 0

between-long : (order : List ℕ) (a b : ℕ) → a < b → b ≤ length order → 1 ≤ length (between order a b)
between-long order a b low high = omega (arith, low, high, length-take (b - a) (drop a order), length-drop a order)

between-more : (order : List ℕ) (a b : ℕ) → a ≤ b → b < length order → between order a (b + 1) ≡ between order a b ++ get_or order b 0 ∷ []
between-more order a b low high =
    let next : b + 1 - a ≡ (b - a) + 1 = omega (arith, low) in
    let at : a + (b - a) ≡ b = omega (arith, low) in
    ap (λ k. take k (drop a order)) next
    ∙ (take_more (drop a order) (b - a) 0 (omega (arith, low, high, length-drop a order))
    ∙ ap (λ r. between order a b ++ r ∷ []) (get_or-drop a order (b - a) 0 ∙ ap (λ k. get_or order k 0) at))

between-one : (order : List ℕ) (a : ℕ) → a < length order → between order a (a + 1) ≡ get_or order a 0 ∷ []
between-one order a high =
    let none : a - a ≡ 0 = omega arith in
    between-more order a a (omega arith) high ∙ ap (λ k. take k (drop a order) ++ get_or order a 0 ∷ []) none

last-push : (cuts : List ℕ) (end : ℕ) → last (cuts ++ end ∷ []) ≡ end
last-push cuts end = get_or_push cuts end 0 (length (cuts ++ end ∷ []) - 1) (omega (arith, length_push cuts end))

module _ {X : Type 0} (F : List ℕ → X) (order : List ℕ) where
  -- something for each run
  abbrev each_run : List ℕ → List X
  each_run cuts = map (λ k. F (run_at order cuts k)) (range_with_len 0 (length cuts - 1))

  run-more : (cuts : List ℕ) (end : ℕ) → 1 ≤ length cuts → each_run (cuts ++ end ∷ []) ≡ each_run cuts ++ F (between order (last cuts) end) ∷ []
  run-more cuts end some =
      let all : List ℕ = cuts ++ end ∷ [] in
      let k : ℕ = length cuts - 1 in
      let long : length all - 1 ≡ k + 1 = omega (arith, length_push cuts end, some) in
      let old : (i : ℕ) → i < length cuts → get_or all i 0 ≡ get_or cuts i 0 = λ i low. get_or_append_left cuts (end ∷ []) 0 i low in
      let newest : get_or all (k + 1) 0 ≡ end = get_or_push cuts end 0 (k + 1) (omega (arith, some)) in
      ap (λ n. map (λ i. F (run_at order all i)) (range_with_len 0 n)) long
      ∙ (map-range_with_len_more (λ i. F (run_at order all i)) 0 k k (omega arith)
      ∙ (λ t.
      same-range (λ i. F (run_at order all i)) (λ i. F (run_at order cuts i)) k (λ i low u. F (take (old (i + 1) (omega (arith, low, some)) u - old i (omega (arith, low)) u) (drop (old i (omega (arith, low)) u) order))) t
      ++ F (take (newest t - old k (omega (arith, some)) t) (drop (old k (omega (arith, some)) t) order)) ∷ []))

-- ---- the entries of runs

module _ (n : ℕ) (view : View) (coded : List (List ℕ)) (facts : List Fact) (numbers : All (HasNumbers n) facts) where
  abbrev E : ℕ → Entry
  E = row_entry view coded facts

  abbrev F : List ℕ → Entry
  F = run_entry n view coded (measures_in facts)

  -- a row by itself
  alone : (row : ℕ) → row < length facts → cell_of n (bare (get_or (measures_in facts) row []) ∷ []) ≡ (E row).cell
  alone row low = λ i. cell_of (sym (numbers row no_fact low) i) (bare (get_or-map (λ (x : Fact). x.measures) facts row no_fact [] low i) ∷ [])

  pub run-alone : (row : ℕ) → row < length facts → F (row ∷ []) ≡ E row
  run-alone row low = λ i. entry_of (row_place view coded row, alone row low i)

  -- a row more
  pub run-longer : (rows : List ℕ) (row : ℕ) → 1 ≤ length rows → row < length facts → pair_of (F (rows ++ row ∷ [])) ≡ ((F rows).point.at, join (F rows).cell (E row).cell)
  run-longer rows row some low =
      let f : ℕ → Fact = λ row. bare (get_or (measures_in facts) row []) in
      let first : slice_index (rows ++ row ∷ []) 0 ≡ slice_index rows 0 = get_or_append_left rows (row ∷ []) 0 0 some in
      let cell : cell_of n (facts_at (measures_in facts) (rows ++ row ∷ [])) ≡ join (F rows).cell (E row).cell
      = ap (cell_of n) (map-append f rows (row ∷ []))
      ∙ (cell-push n (map f rows) (f row) (omega (arith, some, length-map rows f)) ∙ ap (join (F rows).cell) (alone row low)) in
      λ i. (row_place view coded (first i), cell i)

  module _ (order : List ℕ) (rows : All (λ row. row < length facts) order) where
    abbrev starts : ℕ → Bool
    starts = begins view coded order

    -- where places begin among the first rows
    abbrev cuts : ℕ → List ℕ
    cuts i = filter starts (range_with_len 0 i)

    abbrev open_run : ℕ → List ℕ
    open_run i = between order (last (cuts i)) i

    abbrev whole : List Entry
    whole = squeezed_entries (map E order)

    -- the runs that are closed, and the one that is open, before the row i
    record SoFar (i : ℕ) : Type 0 where
      some : 1 ≤ length (cuts i)
      low : last (cuts i) < i
      place : (F (open_run i)).point.at ≡ row_place view coded (slice_index order (i - 1))
      all : each_run F order (cuts i) ++ squeezed_entries (F (open_run i) ∷ map E (drop i order)) ≡ whole

    -- what the test says behind the first row
    told : (i : ℕ) (b : Bool) → 1 ≤ i → starts i ≡ b → not (same_place view coded (slice_index order (i - 1)) (slice_index order i)) ≡ b
    told i b some is =
        sym (ap (λ (z : Bool). z || not (same_place view coded (slice_index order (i - 1)) (slice_index order i))) (ne_eqb i 0 (λ e. omega (arith, some, e)))) ∙ is

    unsaid : (b c : Bool) → not b ≡ c → b ≡ not c
    unsaid true c is = ap not is
    unsaid false c is = ap not is

    module _ (i : ℕ) (before : SoFar i) (high : i < length order) where
      abbrev row : ℕ
      row = get_or order i 0

      abbrev e : Entry
      e = F (open_run i)

      abbrev es : List Entry
      es = map E (drop (i + 1) order)

      here : i + 1 - 1 ≡ i
      here = omega arith

      -- the point of the open run, and that of the row
      asked : (b : Bool) → starts i ≡ b → is_eq (point_cmp e.point.at (E row).point.at) ≡ not b
      asked b is = ap (λ at. is_eq (point_cmp at (row_place view coded row))) before.place ∙ unsaid (same_place view coded (slice_index order (i - 1)) row) b (told i b (omega (arith, before.low)) is)

      behind : squeezed_entries (e ∷ E row ∷ es) ≡ squeezed_entries (e ∷ map E (drop i order))
      behind = ap (λ rs. squeezed_entries (e ∷ map E rs)) (sym (drop_more order i 0 high))

      step-same : starts i ≡ false → SoFar (i + 1)
      step-same on =
          let same = filter-no starts i on in
          let run : open_run (i + 1) ≡ open_run i ++ row ∷ [] = ap (λ cs. between order (last cs) (i + 1)) same ∙ between-more order (last (cuts i)) i (omega (arith, before.low)) high in
          let pair : pair_of (F (open_run (i + 1))) ≡ (e.point.at, join e.cell (E row).cell)
          = ap (λ rs. pair_of (F rs)) run ∙ run-longer (open_run i) row (between-long order (last (cuts i)) i before.low (omega (arith, high))) (rows i 0 high) in
          let one = asked false on in
          record {
            some = subst (λ cs. 1 ≤ length cs) (sym same) before.some;
            low = omega (arith, before.low, ap last same);
            place = ap (λ p. p.0) pair ∙ (point-only e.point.at (row_place view coded row) ((Equal-is (point_cmp e.point.at (row_place view coded row))).0 one) ∙ ap (λ k. row_place view coded (slice_index order k)) (sym here));
            all =
                ap (λ cs. each_run F order cs ++ squeezed_entries (F (open_run (i + 1)) ∷ es)) same
                ∙ (ap (λ (ds : List Entry). each_run F order (cuts i) ++ ds) (sym (entries-same e (E row) (F (open_run (i + 1))) es one pair) ∙ behind) ∙ before.all);
          }

      step-other : starts i ≡ true → SoFar (i + 1)
      step-other off =
          let more = filter-yes starts i off in
          let run : open_run (i + 1) ≡ row ∷ [] = ap (λ cs. between order (last cs) (i + 1)) more ∙ (ap (λ a. between order a (i + 1)) (last-push (cuts i) i) ∙ between-one order i high) in
          let entry : F (open_run (i + 1)) ≡ E row = ap F run ∙ run-alone row (rows i 0 high) in
          record {
            some = omega (arith, ap (λ (cs : List ℕ). length cs) more, length_push (cuts i) i);
            low = omega (arith, ap last more ∙ last-push (cuts i) i);
            place = ap (λ (d : Entry). d.point.at) entry ∙ ap (λ k. row_place view coded (slice_index order k)) (sym here);
            all =
                (λ t. each_run F order (more t) ++ squeezed_entries (entry t ∷ es))
                ∙ (ap (λ (ds : List Entry). ds ++ squeezed_entries (E row ∷ es)) (run-more F order (cuts i) i before.some)
                ∙ (append_assoc (each_run F order (cuts i)) (e ∷ []) (squeezed_entries (E row ∷ es))
                ∙ (ap (λ (ds : List Entry). each_run F order (cuts i) ++ ds) (sym (entries-other e (E row) es refl (asked true off)) ∙ behind) ∙ before.all)));
          }

      step : SoFar (i + 1)
      step = elim (cases_Bool (starts i)) [ inl t ↦ step-other t | inr f ↦ step-same f ]

    first : 0 < length order → SoFar 1
    first some =
        let row : ℕ = get_or order 0 0 in
        let run : open_run 1 ≡ row ∷ [] = between-one order 0 some in
        let entry : F (open_run 1) ≡ E row = ap F run ∙ run-alone row (rows 0 0 some) in
        record {
          some = omega arith;
          low = omega arith;
          place = ap (λ (d : Entry). d.point.at) entry;
          all = (λ t. squeezed_entries (entry t ∷ map E (drop 1 order))) ∙ ap (λ rs. squeezed_entries (map E rs)) (sym (drop_more order 0 0 some));
        }

    -- all rows are passed
    so-far : (i : ℕ) → i < length order → SoFar (i + 1)
    so-far zero high = first high
    so-far (suc i) high = step-from (so-far i (omega (arith, high))) (omega (arith, high))
      where
        step-from : SoFar (i + 1) → i + 1 < length order → SoFar (suc i + 1)
        step-from before low = let next : i + 1 + 1 ≡ suc i + 1 = omega arith in subst SoFar next (step (i + 1) before low)

    all-runs : (k : ℕ) → length order ≡ k + 1 → each_run F order (cuts_by starts (length order)) ≡ whole
    all-runs k long =
        let n : ℕ = length order in
        let before : SoFar n = subst SoFar (sym long) (so-far k (omega (arith, long))) in
        run-more F order (cuts n) n before.some
        ∙ (ap (λ rs. each_run F order (cuts n) ++ squeezed_entries (F (open_run n) ∷ map E rs)) (sym (drop_all n order (omega arith))) ∙ before.all)

  -- an entry for each run is one for each place
  pub runs-joined : (order : List ℕ) → All (λ row. row < length facts) order → each_run F order (cuts_by (begins view coded order) (length order)) ≡ squeezed_entries (map E order)
  runs-joined [] rows = refl
  runs-joined (row ∷ order) rows = all-runs (row ∷ order) rows (length order) (omega arith)
