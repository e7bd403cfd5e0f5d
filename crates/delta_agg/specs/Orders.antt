-- The points of a batch as its rows, in the order of each view.
use Rattle.std.specs.Prelude.{◌≡◌, ◌≤◌, ◌+◌, ◌-◌, ℕ, ℤ, pos, List, [], drop, flat_map, get_or, length, map, slice_index, take}
use Rattle.std.specs.List.{All, range_with_len}
use Rattle.fact_model.specs.declared.fact.Fact.{Fact}
use Rattle.fact_model.specs.declared.cell.Part.{Part}
use Rattle.fact_model.specs.Cell.{cell_of}
use Rattle.cube_point.specs.declared.point.Entry.{Entry}
use Rattle.spec_points.specs.Points.{View}
use Rattle.spec_points.specs.Entries.{entry_of}
use Rattle.spec_points.specs.Light.{KeepMasses}
use Rattle.delta_agg.specs.declared.runs.ViewRuns.{ViewRuns}
use Rattle.delta_agg.specs.Batch.{HasPlace}
use Rattle.delta_agg.specs.Rows.{IsOrdered, row_place}

-- a fact of these numbers, without values
abbrev pub bare : List ℤ → Fact
bare numbers = record { values = []; measures = numbers }

-- the facts of some rows, without their values
abbrev pub facts_at : List (List ℤ) → List ℕ → List Fact
facts_at numbers rows = map (λ row. bare (get_or numbers row [])) rows

-- the part used as a default: of no number
abbrev pub no_part : Part
no_part = record { sum = pos 0; low = pos 0; high = pos 0 }

-- the entry of rows that share one place: the place of the first, and the cell of all
abbrev pub run_entry : ℕ → View → List (List ℕ) → List (List ℤ) → List ℕ → Entry
run_entry measures view coded numbers rows = entry_of (row_place view coded (slice_index rows 0), cell_of measures (facts_at numbers rows))

-- the elements between a cut and the next
abbrev pub run_at : List ℕ → List ℕ → ℕ → List ℕ
run_at order cuts at = take (slice_index cuts (at + 1) - slice_index cuts at) (drop (slice_index cuts at) order)

-- how many runs there are
abbrev pub run_count : ViewRuns → ℕ
run_count v = length v.runs.cuts - 1

-- the entry of a run
abbrev pub entry_at : ℕ → List (List ℕ) → List (List ℤ) → ViewRuns → ℕ → Entry
entry_at measures coded numbers v at = run_entry measures v.view coded numbers (run_at v.runs.order v.runs.cuts at)

-- an entry for each run
abbrev pub view_entries : ℕ → List (List ℕ) → List (List ℤ) → ViewRuns → List Entry
view_entries measures coded numbers v = map (entry_at measures coded numbers v) (range_with_len 0 (run_count v))

-- the entries of one view after another
abbrev pub tree_entries : ℕ → List (List ℕ) → List (List ℤ) → List ViewRuns → List Entry
tree_entries measures coded numbers views = flat_map (view_entries measures coded numbers) views

-- only the views
abbrev pub views_in : List ViewRuns → List View
views_in views = map (λ (v : ViewRuns). v.view) views

-- the default past the views
abbrev pub no_view : ViewRuns
no_view = record { view = []; runs = record { order = []; cuts = [] } }

-- codes and numbers of at most 262,144 rows, whose sums fit their types
pub record IsBatch (measures : ℕ) (coded : List (List ℕ)) (numbers : List (List ℤ)) : Type 0 where
  pub lists : length coded ≡ length numbers
  pub some : 1 ≤ measures
  pub four : measures ≤ 4
  pub each : All (λ row. length row ≡ measures) numbers
  pub masses : KeepMasses (map bare numbers)
  pub few : length numbers ≤ 262144

-- the rows have places in the view, and are in the view's order
pub record IsRuns (coded : List (List ℕ)) (v : ViewRuns) : Type 0 where
  pub arity : length v.view ≤ 8
  pub places : All (HasPlace v.view) coded
  pub ordered : IsOrdered v.view coded v.runs.order v.runs.cuts

-- at most nine views, each with the rows in its order
pub record IsTree (coded : List (List ℕ)) (views : List ViewRuns) : Type 0 where
  pub nine : length views ≤ 9
  pub each : All (IsRuns coded) views

-- the points of a tree, and how many there are
pub record IsPoints (measures : ℕ) (coded : List (List ℕ)) (numbers : List (List ℤ)) (views : List ViewRuns) (count : ℕ) : Type 0 where
  pub batch : IsBatch measures coded numbers
  pub tree : IsTree coded views
  pub counted : count ≡ length (tree_entries measures coded numbers views)

-- the points of each tree
pub record IsDeltas (measures : ℕ) (coded : List (List ℕ)) (numbers : List (List ℤ)) (trees : List (List ViewRuns)) : Type 0 where
  pub batch : IsBatch measures coded numbers
  pub each : All (IsTree coded) trees
