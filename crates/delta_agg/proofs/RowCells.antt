-- The cell of rows, row by row.
use Rattle.std.proofs.Common.{◌≡◌, ℕ, zero, suc, ◌+◌, ◌<◌, ◌≤◌, ℤ, ◌+ℤ◌, List, [], ◌∷◌, ◌++◌, length, map, get_or, take, drop, refl, sym, ◌∙◌, ap, subst, inl, inr, arith}
use Rattle.std.specs.Prelude.{FitsSigned, nat_abs, pos, sum_by}
use Rattle.std.specs.Int.{int_min, int_max, w128}
use Rattle.std.specs.List.{All, AllByRecursion}
use Rattle.std.proofs.lemmas.Bool.{cases_lt}
use Rattle.std.proofs.lemmas.List.{ext_get_or, get_or_past, length-map, length-take, map-append, take-append-drop, take_more}
use Rattle.fact_model.specs.declared.cell.Part.{Part}
use Rattle.fact_model.specs.declared.fact.Fact.{Fact}
use Rattle.fact_model.specs.Cell.{cell_of, each_joined, join, join_parts, part_of}
use Rattle.fact_model.specs.Fact.{mass, mass_limit, measure_at, numbers_at}
use Rattle.fact_model.specs.Numbers.{total}
use Rattle.fact_model.proofs.Cells.{cell-append}
use Rattle.fact_model.proofs.Masses.{mass-cons}
use Rattle.spec_points.specs.Light.{KeepMasses}
use Rattle.std.proofs.lemmas.Int.{ints}
use Rattle.std.proofs.lemmas.List.Sums.{sum_by-cons}
use Rattle.spec_points.proofs.Answers.{four}
use Rattle.spec_points.proofs.Sums.{mass-append}
use Rattle.delta_agg.specs.Orders.{bare, facts_at, no_part}

-- the part of one number of a row
abbrev pub part_at : List ℤ → ℕ → Part
part_at numbers m = part_of (get_or numbers m (pos 0) ∷ [])

-- the parts of one row
abbrev pub parts_of : List ℤ → List Part
parts_of numbers = map (part_at numbers) (0 ∷ 1 ∷ 2 ∷ 3 ∷ [])

-- past its numbers a row has no part
past-none : (numbers : List ℤ) (m : ℕ) → length numbers ≤ m → part_at numbers m ≡ no_part
past-none numbers m past = ap (λ z. part_of (z ∷ [])) (get_or_past numbers m (pos 0) past)

each-long : (ps qs : List Part) → length ps ≡ length qs → length (each_joined ps qs) ≡ length ps
each-long [] qs same = refl
each-long (p ∷ ps) [] same = sym same
each-long (p ∷ ps) (q ∷ qs) same = ap suc (each-long ps qs (omega (arith, same)))

each-at : (ps qs : List Part) (k : ℕ) → length ps ≡ length qs → k < length ps → get_or (each_joined ps qs) k no_part ≡ join_parts (get_or ps k no_part) (get_or qs k no_part)
each-at [] qs k same low = absurd (omega (arith, low))
each-at (p ∷ ps) [] k same low = absurd (omega (arith, same))
each-at (p ∷ ps) (q ∷ qs) zero same low = refl
each-at (p ∷ ps) (q ∷ qs) (suc k) same low = each-at ps qs k (omega (arith, same)) (omega (arith, low))

module _ (numbers : List ℤ) where
  pub parts-alone : (parts : List Part) → length parts ≡ 4 → ((k : ℕ) → k < length numbers → get_or parts k no_part ≡ part_at numbers k)
      → ((k : ℕ) → length numbers ≤ k → k < 4 → get_or parts k no_part ≡ no_part) → parts ≡ parts_of numbers
  parts-alone parts long each none =
      ext_get_or no_part parts (parts_of numbers) long (λ k low. at k (omega (arith, low, long)) ∙ sym (four (part_at numbers) k no_part (omega (arith, low, long))))
    where
      at : (k : ℕ) → k < 4 → get_or parts k no_part ≡ part_at numbers k
      at k low = elim (cases_lt k (length numbers)) [
        | inl inside ↦ each k inside
        | inr past ↦ none k past low ∙ sym (past-none numbers k past)
      ]

  -- the parts of a cell with one row more
  pub parts-more : (olds news : List Part) → length olds ≡ 4 → length news ≡ 4 → ((k : ℕ) → k < length numbers → get_or news k no_part ≡ join_parts (get_or olds k no_part) (part_at numbers k))
      → ((k : ℕ) → length numbers ≤ k → k < 4 → get_or news k no_part ≡ get_or olds k no_part) → ((k : ℕ) → length numbers ≤ k → k < 4 → get_or olds k no_part ≡ no_part)
      → news ≡ each_joined olds (parts_of numbers)
  parts-more olds news long other each rest none =
      ext_get_or no_part news (each_joined olds (parts_of numbers)) (other ∙ sym (each-long olds (parts_of numbers) long ∙ long))
      (λ k low. at k (omega (arith, low, other)) ∙ sym (each-at olds (parts_of numbers) k long (omega (arith, low, other, long)) ∙ ap (join_parts (get_or olds k no_part)) (four (part_at numbers) k no_part (omega (arith, low, other)))))
    where
      at : (k : ℕ) → k < 4 → get_or news k no_part ≡ join_parts (get_or olds k no_part) (part_at numbers k)
      at k low = elim (cases_lt k (length numbers)) [
        | inl inside ↦ each k inside
        | inr past ↦ rest k past low ∙ (none k past low ∙ (λ i. join_parts (sym (none k past low) i) (sym (past-none numbers k past) i)))
      ]

-- ---- rows and their masses

abs-add : (x y : ℤ) → nat_abs (x +ℤ y) ≤ nat_abs x + nat_abs y
abs-add x y = omega (arith, ints)

total-size : (zs : List ℤ) → nat_abs (total zs) ≤ sum_by nat_abs zs
total-size [] = omega arith
total-size (z ∷ zs) = omega (arith, abs-add z (total zs), total-size zs, sum_by-cons nat_abs z zs)

-- a number more adds up, where all together are within the limit
pub number-fits : (m : ℕ) (facts : List Fact) (x : Fact) → mass m (facts ++ x ∷ []) ≤ mass_limit → FitsSigned w128 ((part_of (numbers_at m facts)).sum +ℤ measure_at m x)
number-fits m facts x within =
    omega (arith, ints, total-size (numbers_at m facts), within, mass-append m facts (x ∷ []), mass-cons m x [])

-- zeros make no part
zeros-none : (zs : List ℤ) → AllByRecursion (λ z. z ≡ pos 0) zs → part_of zs ≡ no_part
zeros-none [] h = refl
zeros-none (z ∷ []) h = ap (λ z. part_of (z ∷ [])) h.0
zeros-none (z ∷ y ∷ zs) h = λ i. record {
  sum = h.0 i +ℤ (zeros-none (y ∷ zs) h.1 i).sum;
  low = int_min (h.0 i) (zeros-none (y ∷ zs) h.1 i).low;
  high = int_max (h.0 i) (zeros-none (y ∷ zs) h.1 i).high;
}

-- ---- one row more

pub cell-push : (n : ℕ) (facts : List Fact) (x : Fact) → 1 ≤ length facts → cell_of n (facts ++ x ∷ []) ≡ join (cell_of n facts) (cell_of n (x ∷ []))
cell-push n [] x some = absurd (omega (arith, some))
cell-push n (y ∷ ys) x some = cell-append n y ys x []

module _ (n : ℕ) (numbers : List (List ℤ)) (rows : List ℕ) where
  abbrev pub front : ℕ → List Fact
  front i = facts_at numbers (take i rows)

  abbrev pub here : ℕ → List ℤ
  here i = get_or numbers (get_or rows i 0) []

  facts-more : (i : ℕ) → i < length rows → front (i + 1) ≡ front i ++ bare (here i) ∷ []
  facts-more i low =
      let f : ℕ → Fact = λ row. bare (get_or numbers row []) in
      ap (map f) (take_more rows i 0 low) ∙ map-append f (take i rows) (get_or rows i 0 ∷ [])

  -- the mass of some of the rows is within that of all
  front-mass : (m i : ℕ) → mass m (front i) ≤ mass m (facts_at numbers rows)
  front-mass m i =
      let f : ℕ → Fact = λ row. bare (get_or numbers row []) in
      let whole : mass m (facts_at numbers rows) ≡ mass m (front i) + mass m (map f (drop i rows)) = ap (λ rows. mass m (map f rows)) (sym (take-append-drop i rows)) ∙ (ap (mass m) (map-append f (take i rows) (drop i rows)) ∙ mass-append m (front i) (map f (drop i rows))) in
      omega (arith, whole)

  module _ (i : ℕ) (low : i < length rows) where
    pub row-fits : (m : ℕ) → KeepMasses (facts_at numbers rows) → m < 4 → FitsSigned w128 ((get_or (cell_of n (front i)).parts m no_part).sum +ℤ get_or (here i) m (pos 0))
    row-fits m masses four_m =
        subst (λ (p : Part). FitsSigned w128 (p.sum +ℤ get_or (here i) m (pos 0))) (sym (four (λ m. part_of (numbers_at m (front i))) m no_part four_m))
        (number-fits m (front i) (bare (here i)) (omega (arith, ap (mass m) (facts-more i low), front-mass m (i + 1), masses m four_m)))

    pub row-joined : 1 ≤ i → cell_of n (front (i + 1)) ≡ join (cell_of n (front i)) (cell_of n (bare (here i) ∷ []))
    row-joined some =
        ap (cell_of n) (facts-more i low)
        ∙ cell-push n (front i) (bare (here i)) (omega (arith, some, low, length-map (take i rows) (λ row. bare (get_or numbers row [])), length-take i rows))

  module _ (each : All (λ row. length row ≡ n) numbers) where
    short : (row : ℕ) → length (get_or numbers row []) ≤ n
    short row = elim (cases_lt row (length numbers)) [
      | inl low ↦ omega (arith, each row [] low)
      | inr past ↦ omega (arith, ap (λ (zs : List ℤ). length zs) (get_or_past numbers row [] past))
    ]

    zeros : (m : ℕ) → n ≤ m → (some_rows : List ℕ) → AllByRecursion (λ z. z ≡ pos 0) (numbers_at m (facts_at numbers some_rows))
    zeros m past [] = tt
    zeros m past (row ∷ some_rows) = (get_or_past (get_or numbers row []) m (pos 0) (omega (arith, past, short row)), zeros m past some_rows)

    -- past the measures there is no part
    pub row-none : (i m : ℕ) → n ≤ m → m < 4 → get_or (cell_of n (front i)).parts m no_part ≡ no_part
    row-none i m past low = four (λ m. part_of (numbers_at m (front i))) m no_part low ∙ zeros-none (numbers_at m (front i)) (zeros m past (take i rows))
