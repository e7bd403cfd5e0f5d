-- A leaf may hold each point of a view.
use Rattle.std.proofs.Common.{◌≡◌, ◌≤◌, ◌<◌, ◌^◌, ℕ, Bool, true, List, [], ◌∷◌, map, length, filter, refl, sym, ap, subst, arith}
use Rattle.std.specs.Prelude.{nat_lt}
use Rattle.std.specs.Ordering.{is_lt}
use Rattle.std.specs.List.{All, AllByRecursion}
use Rattle.std.proofs.lemmas.Bool.{and_from, lt-ltb}
use Rattle.fact_model.specs.declared.fact.Fact.{Fact}
use Rattle.fact_model.specs.declared.cell.Cell.{Cell}
use Rattle.fact_model.specs.Fact.{numbers_at, mass, mass_limit}
use Rattle.fact_model.specs.Cell.{cell_of}
use Rattle.fact_model.proofs.Masses.{mass-filter}
use Rattle.cube_point.specs.declared.point.Entry.{Entry}
use Rattle.cube_point.specs.declared.point.Shape.{Shape}
use Rattle.cube_point.specs.Points.{point_cmp}
use Rattle.spec_points.specs.Arity.{HasArity, arity_of}
use Rattle.row_fold.specs.Ascends.{Ascends}
use Rattle.spec_points.specs.Entries.{entry_of}
use Rattle.spec_points.specs.Points.{Names, View, PlacedCell, place_of, points_by}
use Rattle.spec_points.specs.Agree.{IsCoded}
use Rattle.spec_points.proofs.Arities.{arity-of, each-arity}
use Rattle.spec_points.proofs.Cells.{one_cell}
use Rattle.spec_points.proofs.Entries.{point-entry}
use Rattle.spec_points.proofs.Members.{every-both, every-map, every-filter, every-from_All, All-from_every}
use Rattle.page_fmt.specs.Formats.{is_wide}
use Rattle.page_entry.specs.Entries.{entry_before, ascend}
use Rattle.page_entry.specs.Stored.{FitsLeaf}
use Rattle.spec_forest.specs.Storable.{HasCodesFor, AreStorable}
use Rattle.spec_forest.proofs.Cells.{IsCellOf, cells-of, each-point, fewer}
use Rattle.spec_forest.proofs.Parts.{part-fits, part-lawful, part-none, four-used, four-unused, four-lawful}
use Rattle.spec_forest.proofs.Places.{IsPlaceOf, coded-place}

-- ---- one entry

entry-fits : (shape : Shape) (arity : ℕ) (at : List ℕ) (facts : List Fact) → arity ≤ 8 → shape.measures ≤ 4 → IsPlaceOf shape.wide arity at → 0 < length facts → length facts ≤ 2 ^ 40
    → ((m : ℕ) → m < 4 → mass m facts ≤ mass_limit) → AllByRecursion (λ (x : Fact). length x.measures ≤ shape.measures) facts → FitsLeaf shape (entry_of (at, cell_of shape.measures facts))
entry-fits shape arity at facts few le place some many masses numbers =
    let n = shape.measures in
    let fits = λ (m : ℕ) (l : m < 4). part-fits (numbers_at m facts) (masses m l) in
    let lawful = λ (m : ℕ). part-lawful (numbers_at m facts) in
    let none = λ (m : ℕ) (l : n ≤ m). part-none m n facts l numbers in
    record {
      point = point-entry arity (at, cell_of n facts) few place.used;
      eight = place.eight;
      narrow = place.narrow;
      cell = and_from (nat_lt 0 (length facts)) _ (lt-ltb 0 (length facts) some) (four-lawful n _ _ _ _ le (lawful 0) (lawful 1) (lawful 2) (lawful 3));
      count = omega (arith, many);
      measures = refl;
      parts = four-used n _ _ _ _ le (fits 0 (omega arith)) (fits 1 (omega arith)) (fits 2 (omega arith)) (fits 3 (omega arith));
      no_parts = four-unused n _ _ _ _ le (none 0) (none 1) (none 2) (none 3);
    }

-- ---- all of them

-- pairs that ascend are entries in order
pub ascend-entries : (es : List PlacedCell) → Ascends point_cmp es → ascend entry_before (map entry_of es) ≡ true
unfolding entry_before
ascend-entries [] h = refl
ascend-entries (e ∷ []) h = refl
ascend-entries (e ∷ d ∷ es) h = and_from (entry_before (entry_of e) (entry_of d)) _ (ap is_lt h.0.0) (ascend-entries (d ∷ es) h.1)

module _ (shape : Shape) (names : Names) (view : View) (facts : List Fact) where
  abbrev n : ℕ
  n = shape.measures

  -- the points of the facts, as entries
  abbrev pub view_entries : List Entry
  view_entries = map entry_of (points_by names n view facts)

  of-entries : (P : Entry → Type 0) (es : List PlacedCell) → AllByRecursion (λ e. P (entry_of e)) es → AllByRecursion P (map entry_of es)
  of-entries P [] h = tt
  of-entries P (e ∷ es) h = (h.0, of-entries P es h.1)

  -- all have the arity of the view
  pub entries-arity : All (IsCoded names) facts → All (λ (e : Entry). e.point.arity ≡ length view) view_entries
  entries-arity coded = All-from_every (λ (e : Entry). e.point.arity ≡ length view) view_entries
      (of-entries (λ (e : Entry). e.point.arity ≡ length view) (points_by names n view facts)
      (every-map (λ (e : PlacedCell). HasArity (length view) e.0) (λ e. arity_of e.0 ≡ length view) (λ e h. arity-of (length view) e.0 h) (points_by names n view facts)
      (each-arity names n view facts (every-from_All (IsCoded names) facts coded))))

  module _ {format : ℕ} (wide : shape.wide ≡ is_wide format) (few : length view ≤ 8) (four : n ≤ 4) (storable : AreStorable format names n facts) where
    abbrev Good : PlacedCell → Type 0
    Good e = IsPlaceOf shape.wide (length view) e.0 × (0 < e.1.count)

    good : AllByRecursion Good (points_by names n view facts)
    good = each-point (IsPlaceOf shape.wide (length view)) (λ c. 0 < c.count) (λ c d p q. omega (arith, p, q)) names n view facts
        (every-map (λ x. IsCoded names x × HasCodesFor format names x) (λ x. IsPlaceOf shape.wide (length view) (place_of names view x) × (0 < (one_cell n x).count))
        (λ x h. (subst (λ (w : Bool). IsPlaceOf w (length view) (place_of names view x)) (sym wide) (coded-place format names view x few h.0 h.1), omega arith)) facts
        (every-both (IsCoded names) (HasCodesFor format names) facts (every-from_All (IsCoded names) facts storable.coded) (every-from_All (HasCodesFor format names) facts storable.narrow)))

    fits-one : (e : PlacedCell) → Good e × IsCellOf n facts e.1 → FitsLeaf shape (entry_of e)
    fits-one e h =
        let ys : List Fact = filter h.1.0 facts in
        let is : e.1 ≡ cell_of n ys = h.1.1 in
        let some : 0 < length ys = subst (λ (c : Cell). 0 < c.count) is h.0.1 in
        subst (λ (c : Cell). FitsLeaf shape (entry_of (e.0, c))) (sym is)
        (entry-fits shape (length view) e.0 ys few four h.0.0 some (omega (arith, fewer h.1.0 facts, storable.few)) (λ m l. omega (arith, mass-filter h.1.0 m facts, storable.masses m l))
        (every-filter (λ (x : Fact). length x.measures ≤ n) h.1.0 facts (every-from_All (λ (x : Fact). length x.measures ≤ n) facts storable.numbers)))

    -- a leaf may hold each of them
    pub entries-fit : All (FitsLeaf shape) view_entries
    entries-fit = All-from_every (FitsLeaf shape) view_entries (of-entries (FitsLeaf shape) (points_by names n view facts)
        (every-map (λ e. Good e × IsCellOf n facts e.1) (λ e. FitsLeaf shape (entry_of e)) fits-one (points_by names n view facts) (every-both Good (λ e. IsCellOf n facts e.1) (points_by names n view facts) good (cells-of names n view facts))))
