-- The sums of points are within the mass of the facts, and their counts add up to the facts.
use Rattle.std.proofs.Common.{◌≡◌, ℕ, zero, suc, ◌+◌, ◌<◌, ◌≤◌, Bool, true, false, cond, List, [], ◌∷◌, ◌++◌, map, length, filter, get_or, ℤ, ◌+ℤ◌, nat_abs, sum_by, refl, sym, ◌∙◌, ap, subst, arith}
use Rattle.std.proofs.lemmas.List.Sums.{sum_by-cons}
use Rattle.std.proofs.lemmas.Int.{ints}
use Rattle.std.specs.declared.cmp.Ordering.{Ordering}
use Rattle.std.specs.declared.cmp.Ordering.TheVariants.{Less, Equal, Greater}
use Rattle.fact_model.specs.declared.fact.Fact.{Fact}
use Rattle.fact_model.specs.declared.cell.Cell.{Cell}
use Rattle.fact_model.specs.declared.cell.Part.{Part}
use Rattle.fact_model.specs.Distinct.{by_order}
use Rattle.fact_model.specs.Fact.{measure_at, numbers_at, mass, mass_limit}
use Rattle.fact_model.specs.Numbers.{total}
use Rattle.fact_model.specs.Cell.{part_of, each_joined, join}
use Rattle.fact_model.proofs.Masses.{mass-cons, mass-filter}
use Rattle.cube_point.specs.Points.{point_cmp}
use Rattle.spec_points.specs.Points.{Names, place_of, points_by, View, PlacedCell}
use Rattle.spec_points.specs.Answer.{joined}
use Rattle.spec_points.specs.Weights.{weight, size_at, count_in}
use Rattle.row_fold.proofs.Grouping.{put, grouped}
use Rattle.spec_points.proofs.Cells.{one_cell}
use Rattle.spec_points.proofs.Points.{points-grouped}
use Rattle.spec_points.proofs.Answers.{four}

abs-add : (x y : ℤ) → nat_abs (x +ℤ y) ≤ nat_abs x + nat_abs y
abs-add x y = omega (arith, ints)

each-size : (ps qs : List Part) (m : ℕ) → nat_abs (get_or (each_joined ps qs) m (part_of [])).sum ≤ nat_abs (get_or ps m (part_of [])).sum + nat_abs (get_or qs m (part_of [])).sum
each-size [] qs m = omega arith
each-size (p ∷ ps) [] m = omega arith
each-size (p ∷ ps) (q ∷ qs) zero = abs-add p.sum q.sum
each-size (p ∷ ps) (q ∷ qs) (suc m) = each-size ps qs m

-- a joined sum is no greater than both together
pub join-size : (m : ℕ) (c d : Cell) → size_at m (join c d) ≤ size_at m c + size_at m d
join-size m c d = each-size c.parts d.parts m

module _ {K : Type 0} (R : K → K → Ordering) (w : Cell → ℕ) (law : (c d : Cell) → w (join c d) ≤ w c + w d) where
  weight-put : (k : K) (c : Cell) (es : List (K × Cell)) → weight w (put R join k c es) ≤ w c + weight w es
  weight-put k c [] = omega arith
  weight-put k c (e ∷ es) = elim (R k e.0) as (λ r. weight w (by_order r ((k, c) ∷ (e ∷ es)) ((k, join c e.1) ∷ es) (e ∷ put R join k c es)) ≤ w c + (w e.1 + weight w es))
      [ Less ↦ omega arith | Equal ↦ omega (arith, law c e.1) | Greater ↦ omega (arith, weight-put k c es) ]

  -- the entries of groups weigh no more than the items
  pub weight-grouped : {X : Type 0} (key : X → K) (one : X → Cell) (xs : List X) → weight w (grouped R join key one xs) ≤ weight w (map (λ x. (key x, one x)) xs)
  weight-grouped key one [] = omega arith
  weight-grouped key one (x ∷ xs) = omega (arith, weight-put (key x) (one x) (grouped R join key one xs), weight-grouped key one xs)

total-size : (zs : List ℤ) → nat_abs (total zs) ≤ sum_by nat_abs zs
total-size [] = omega arith
total-size (z ∷ zs) = omega (arith, abs-add z (total zs), total-size zs, sum_by-cons nat_abs z zs)

-- the sum of the facts that pass any test is within the mass
pub total-filter : (p : Fact → Bool) (m : ℕ) (xs : List Fact) → nat_abs (total (numbers_at m (filter p xs))) ≤ mass m xs
total-filter p m xs = omega (arith, total-size (numbers_at m (filter p xs)), mass-filter p m xs)

-- the mass of two lists is the sum of both masses
pub mass-append : (m : ℕ) (xs ys : List Fact) → mass m (xs ++ ys) ≡ mass m xs + mass m ys
mass-append m [] ys = omega arith
mass-append m (x ∷ xs) ys = omega (arith, mass-cons m x (xs ++ ys), mass-append m xs ys, mass-cons m x xs)

size-one : (n m : ℕ) (x : Fact) → m < 4 → size_at m (one_cell n x) ≤ nat_abs (measure_at m x)
size-one n m x l = omega (arith, ints, ap (λ (p : Part). p.sum) (four (λ m. part_of (numbers_at m (x ∷ []))) m (part_of []) l))

-- the magnitudes of the sums of the facts one by one are within the mass
pub weigh-facts : {K : Type 0} (key : Fact → K) (n m : ℕ) (xs : List Fact) → m < 4 → weight (size_at m) (map (λ x. (key x, one_cell n x)) xs) ≤ mass m xs
weigh-facts key n m [] l = omega arith
weigh-facts key n m (x ∷ xs) l = omega (arith, size-one n m x l, weigh-facts key n m xs l, mass-cons m x xs)

-- the magnitudes of the sums of all points of a view, added up, are within the mass
pub points-mass : (ns : Names) (n : ℕ) (view : View) (facts : List Fact) (m : ℕ) → m < 4 → weight (size_at m) (points_by ns n view facts) ≤ mass m facts
points-mass ns n view facts m l = subst (λ es. weight (size_at m) es ≤ mass m facts) (sym (points-grouped ns n view facts))
    (omega (arith, weight-grouped point_cmp (size_at m) (join-size m) (place_of ns view) (one_cell n) facts, weigh-facts (place_of ns view) n m facts l))

-- entries joined weigh no more than all of them
pub joined-size : (m : ℕ) (es : List PlacedCell) → size_at m (joined es) ≤ weight (size_at m) es
joined-size m [] = omega arith
joined-size m (e ∷ []) = omega arith
joined-size m (e ∷ f ∷ es) = omega (arith, join-size m e.1 (joined (f ∷ es)), joined-size m (f ∷ es))

-- some of the entries weigh no more
pub weight-filter : {K : Type 0} (w : Cell → ℕ) (p : (K × Cell) → Bool) (es : List (K × Cell)) → weight w (filter p es) ≤ weight w es
weight-filter w p [] = omega arith
weight-filter w p (e ∷ es) = elim (p e) as (λ b. weight w (cond b (e ∷ filter p es) (filter p es)) ≤ w e.1 + weight w es) [ true ↦ omega (arith, weight-filter w p es) | false ↦ omega (arith, weight-filter w p es) ]

count-put : {K : Type 0} (R : K → K → Ordering) (k : K) (c : Cell) (es : List (K × Cell)) → weight count_in (put R join k c es) ≡ c.count + weight count_in es
count-put R k c [] = omega arith
count-put R k c (e ∷ es) = elim (R k e.0) as (λ r. weight count_in (by_order r ((k, c) ∷ (e ∷ es)) ((k, join c e.1) ∷ es) (e ∷ put R join k c es)) ≡ c.count + (e.1.count + weight count_in es))
    [ Less ↦ refl | Equal ↦ omega arith | Greater ↦ omega (arith, count-put R k c es) ]

count-grouped : {K : Type 0} (R : K → K → Ordering) (key : Fact → K) (n : ℕ) (xs : List Fact) → weight count_in (grouped R join key (one_cell n) xs) ≡ length xs
count-grouped R key n [] = refl
count-grouped R key n (x ∷ xs) = count-put R (key x) (one_cell n x) (grouped R join key (one_cell n) xs) ∙ omega (arith, count-grouped R key n xs)

-- the counts of a view's points add up to the facts
pub counts-all : (ns : Names) (n : ℕ) (view : View) (facts : List Fact) → weight count_in (points_by ns n view facts) ≡ length facts
counts-all ns n view facts = ap (weight count_in) (points-grouped ns n view facts) ∙ count-grouped point_cmp (place_of ns view) n facts

-- whatever points are joined, the sum fits
pub joined-fits : (ns : Names) (n : ℕ) (view : View) (facts : List Fact) (m : ℕ) (p : PlacedCell → Bool) → m < 4 → mass m facts ≤ mass_limit → size_at m (joined (filter p (points_by ns n view facts))) ≤ mass_limit
joined-fits ns n view facts m p l h = omega (arith, joined-size m (filter p (points_by ns n view facts)), weight-filter (size_at m) p (points_by ns n view facts), points-mass ns n view facts m l)
