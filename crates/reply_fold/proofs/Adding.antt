-- The rows of several lists of facts add up where the masses of all facts fit.
use Rattle.std.proofs.Common.{◌≡◌, ℕ, zero, suc, ◌+◌, ◌≤◌, Bool, true, false, cond, List, [], ◌∷◌, ◌++◌, map, length, filter, get_or, ℤ, pos, nat_abs, sum_by, refl, sym, ◌∙◌, ap, arith}
use Rattle.std.specs.Prelude.{flat_map}
use Rattle.std.proofs.lemmas.Int.{ints}
use Rattle.std.proofs.lemmas.List.{length-map}
use Rattle.std.proofs.lemmas.List.Elements.{All-from_recursion}
use Rattle.std.proofs.lemmas.List.Sums.{sum_by-cons}
use Rattle.std.specs.List.{AllByRecursion}
use Rattle.fact_model.specs.declared.fact.Fact.{Fact}
use Rattle.fact_model.specs.declared.slice.Column.{Column}
use Rattle.fact_model.specs.declared.slice.Column.TheVariants.{Count, Sum, Min, Max}
use Rattle.fact_model.specs.declared.slice.Row.{Row}
use Rattle.fact_model.specs.declared.slice.Slice.{Slice}
use Rattle.fact_model.specs.Adds.{AddUp, numbers_in, width}
use Rattle.fact_model.specs.Fact.{key_of, mass, mass_limit, measure_at}
use Rattle.fact_model.specs.Groups.{groups, having}
use Rattle.fact_model.specs.Rows.{as_row, number_of, numbers_of, rows}
use Rattle.fact_model.specs.Slice.{holds}
use Rattle.fact_model.specs.Value.{Key, key_cmp}
use Rattle.fact_model.proofs.Masses.{mass-cons}
use Rattle.fact_model.proofs.Sums.{column-cons}
use Rattle.row_fold.specs.Folds.{KeepsMass}
use Rattle.row_fold.specs.Joins.{join_numbers, size_at}
use Rattle.row_fold.specs.Taking.{group_size}
use Rattle.row_fold.proofs.Adding.{put-size}
use Rattle.row_fold.proofs.FoldLaws.{facts-grouped}
use Rattle.row_fold.proofs.Grouping.{grouped}
use Rattle.row_fold.proofs.NumberJoins.{one}

-- ---- facts

-- how much a fact adds at most to a column
abbrev weight : Column → Fact → ℕ
weight Count x = 1
weight (Sum m) x = nat_abs (measure_at m x)
weight (Min m) x = nat_abs (measure_at m x)
weight (Max m) x = nat_abs (measure_at m x)

one-size : (c : Column) (x : Fact) → nat_abs (number_of (x ∷ []) c) ≤ weight c x
one-size Count x = omega (arith, ints)
one-size (Sum m) x = omega (arith, ints)
one-size (Min m) x = omega (arith, ints)
one-size (Max m) x = omega (arith, ints)

-- of the column of a place; nothing past the columns
abbrev weight_at : List Column → ℕ → Fact → ℕ
weight_at [] i x = 0
weight_at (c ∷ cs) zero x = weight c x
weight_at (c ∷ cs) (suc i) x = weight_at cs i x

ones-size : (cs : List Column) (i : ℕ) (x : Fact) → size_at i (one cs x) ≤ weight_at cs i x
ones-size [] i x = omega (arith, ints)
ones-size (c ∷ cs) zero x = one-size c x
ones-size (c ∷ cs) (suc i) x = ones-size cs i x

counts : (xs : List Fact) → sum_by (weight Count) xs ≡ length xs
counts [] = omega arith
counts (x ∷ xs) = omega (arith, sum_by-cons (weight Count) x xs, counts xs)

masses : (m : ℕ) (xs : List Fact) → sum_by (λ x. nat_abs (measure_at m x)) xs ≡ mass m xs
masses m [] = omega arith
masses m (x ∷ xs) = omega (arith, sum_by-cons (λ x. nat_abs (measure_at m x)) x xs, masses m xs, mass-cons m x xs)

weights : (c : Column) (xs : List Fact) → KeepsMass xs c → sum_by (weight c) xs ≤ mass_limit
weights Count xs k = omega (arith, counts xs, k)
weights (Sum m) xs k = omega (arith, masses m xs, k)
weights (Min m) xs k = omega (arith, masses m xs, k)
weights (Max m) xs k = omega (arith, masses m xs, k)

-- all facts together
weights-at : (cs : List Column) (i : ℕ) (xs : List Fact) → AllByRecursion (KeepsMass xs) cs → sum_by (weight_at cs i) xs ≤ mass_limit
weights-at [] i xs k = (let none = by xs in omega (arith, none))
  where
    by : (xs : List Fact) → sum_by (weight_at [] i) xs ≡ 0
    by [] = omega arith
    by (x ∷ xs) = omega (arith, sum_by-cons (weight_at [] i) x xs, by xs)
weights-at (c ∷ cs) zero xs k = weights c xs k.0
weights-at (c ∷ cs) (suc i) xs k = weights-at cs i xs k.1

weight-filter : (f : Fact → ℕ) (p : Fact → Bool) (xs : List Fact) → sum_by f (filter p xs) ≤ sum_by f xs
weight-filter f p [] = omega arith
weight-filter f p (x ∷ xs) = elim (p x) as (λ b. sum_by f (cond b (x ∷ filter p xs) (filter p xs)) ≤ sum_by f (x ∷ xs)) [
  | true ↦ omega (arith, sum_by-cons f x xs, sum_by-cons f x (filter p xs), weight-filter f p xs)
  | false ↦ omega (arith, sum_by-cons f x xs, weight-filter f p xs)
]

weight-append : (f : Fact → ℕ) (xs ys : List Fact) → sum_by f (xs ++ ys) ≡ sum_by f xs + sum_by f ys
weight-append f [] ys = omega arith
weight-append f (x ∷ xs) ys = omega (arith, sum_by-cons f x xs, sum_by-cons f x (xs ++ ys), weight-append f xs ys)

-- groups are no greater than their facts together
groups-size : (cs : List Column) (key : Fact → Key) (i : ℕ) (xs : List Fact) → sum_by (group_size i) (grouped key_cmp (join_numbers cs) key (one cs) xs) ≤ sum_by (weight_at cs i) xs
groups-size cs key i [] = omega arith
groups-size cs key i (x ∷ xs) =
    omega (arith, put-size cs (key x) (one cs x) i (grouped key_cmp (join_numbers cs) key (one cs) xs), groups-size cs key i xs, ones-size cs i x, sum_by-cons (weight_at cs i) x xs)

-- ---- rows

rows-size : (i : ℕ) (gs : List (Key × List ℤ)) → sum_by nat_abs (numbers_in i (map as_row gs)) ≡ sum_by (group_size i) gs
rows-size i [] = refl
rows-size i (g ∷ gs) = omega (arith, sum_by-cons nat_abs (get_or g.1 i (pos 0)) (numbers_in i (map as_row gs)), sum_by-cons (group_size i) g gs, rows-size i gs)

columns-append : (i : ℕ) (rs qs : List Row) → sum_by nat_abs (numbers_in i (rs ++ qs)) ≡ sum_by nat_abs (numbers_in i rs) + sum_by nat_abs (numbers_in i qs)
columns-append i [] qs = omega arith
columns-append i (r ∷ rs) qs = omega (arith, column-cons i r rs, column-cons i r (rs ++ qs), columns-append i rs qs)

-- a row has a number for each column
abbrev pub HasColumns : List Column → Row → Type 0
HasColumns cs row = length row.numbers ≡ length cs

rows-wide : (cs : List Column) (f : Key → List Fact) (keys : List Key) → AllByRecursion (HasColumns cs) (map as_row (map (λ k. (k, numbers_of cs (f k))) keys))
rows-wide cs f [] = tt
rows-wide cs f (k ∷ keys) = (length-map cs (number_of (f k)), rows-wide cs f keys)

every-append : {X : Type 0} (P : X → Type 0) (xs ys : List X) → AllByRecursion P xs → AllByRecursion P ys → AllByRecursion P (xs ++ ys)
every-append P [] ys h k = k
every-append P (x ∷ xs) ys h k = (h.0, every-append P xs ys h.1 k)

first-wide : (n : ℕ) (rs : List Row) → AllByRecursion (λ (r : Row). length r.numbers ≡ n) rs → AllByRecursion (λ (r : Row). length r.numbers ≡ width rs) rs
first-wide n [] h = tt
first-wide n (r ∷ rs) h = (refl, by rs h.1)
  where
    by : (qs : List Row) → AllByRecursion (λ (q : Row). length q.numbers ≡ n) qs → AllByRecursion (λ (q : Row). length q.numbers ≡ length r.numbers) qs
    by [] g = tt
    by (q ∷ qs) g = (g.0 ∙ sym h.0, by qs g.1)

module _ (s : Slice) where
  abbrev told : List (List Fact) → List Row
  told parts = flat_map (λ facts. rows facts s) parts

  part-size : (i : ℕ) (facts : List Fact) → sum_by nat_abs (numbers_in i (rows facts s)) ≤ sum_by (weight_at s.columns i) facts
  part-size i facts =
      (let kept : List Fact = filter (holds s) facts in
      let are = rows-size i (groups key_cmp (key_of s.group) (numbers_of s.columns) kept) ∙ ap (sum_by (group_size i)) (facts-grouped s.columns (key_of s.group) kept) in
      omega (arith, are, groups-size s.columns (key_of s.group) i kept, weight-filter (weight_at s.columns i) (holds s) facts))

  parts-size : (i : ℕ) (parts : List (List Fact)) → sum_by nat_abs (numbers_in i (told parts)) ≤ sum_by (weight_at s.columns i) (flat_map (λ facts. facts) parts)
  parts-size i [] = omega arith
  parts-size i (facts ∷ parts) =
      omega (arith, part-size i facts, parts-size i parts, columns-append i (rows facts s) (told parts), weight-append (weight_at s.columns i) facts (flat_map (λ facts. facts) parts))

  pub parts-wide : (parts : List (List Fact)) → AllByRecursion (HasColumns s.columns) (told parts)
  parts-wide [] = tt
  parts-wide (facts ∷ parts) =
      every-append (HasColumns s.columns) (rows facts s) (told parts) (rows-wide s.columns (λ k. having key_cmp (key_of s.group) k (filter (holds s) facts)) _) (parts-wide parts)

  pub parts-add : (parts : List (List Fact)) → AllByRecursion (KeepsMass (flat_map (λ facts. facts) parts)) s.columns → AddUp (told parts)
  parts-add parts keep = record {
    wide = All-from_recursion (λ (r : Row). length r.numbers ≡ width (told parts)) (told parts) (first-wide (length s.columns) (told parts) (parts-wide parts));
    fit = λ i. omega (arith, parts-size i parts, weights-at s.columns i (flat_map (λ facts. facts) parts) keep);
  }
