-- Numbers of rows join as those of lists of facts do.
use Rattle.std.proofs.Common.{◌≡◌, ℕ, zero, suc, ◌+◌, ◌≤◌, List, [], ◌∷◌, length, nat_abs, ℤ, ◌+ℤ◌, refl, sym, ap, arith}
use Rattle.std.proofs.Math.IntN.{+ℤ_comm, +ℤ_assoc, +ℤ_idr}
use Rattle.std.proofs.lemmas.Int.{ints, clamps}
use Rattle.std.specs.Int.{int_min, int_max}
use Rattle.fact_model.specs.declared.fact.Fact.{Fact}
use Rattle.fact_model.specs.declared.slice.Column.{Column}
use Rattle.fact_model.specs.declared.slice.Column.TheVariants.{Count, Sum, Min, Max}
use Rattle.fact_model.specs.Fact.{measure_at, numbers_at}
use Rattle.fact_model.specs.Numbers.{total}
use Rattle.fact_model.specs.Rows.{number_of, numbers_of}
use Rattle.fact_model.proofs.Folds.{min-assoc, max-assoc}
use Rattle.row_fold.specs.Joins.{join_number, join_numbers, size_at}

min-comm : (x y : ℤ) → int_min x y ≡ int_min y x
min-comm x y = omega (arith, ints, clamps)

max-comm : (x y : ℤ) → int_max x y ≡ int_max y x
max-comm x y = omega (arith, ints, clamps)

number-comm : (c : Column) (m n : ℤ) → join_number c m n ≡ join_number c n m
number-comm Count m n = +ℤ_comm m n
number-comm (Sum measure) m n = +ℤ_comm m n
number-comm (Min measure) m n = min-comm m n
number-comm (Max measure) m n = max-comm m n

number-assoc : (c : Column) (k m n : ℤ) → join_number c (join_number c k m) n ≡ join_number c k (join_number c m n)
number-assoc Count k m n = +ℤ_assoc k m n
number-assoc (Sum measure) k m n = +ℤ_assoc k m n
number-assoc (Min measure) k m n = min-assoc k m n
number-assoc (Max measure) k m n = max-assoc k m n

-- the order of joining does not matter
pub numbers-comm : (cs : List Column) (ms ns : List ℤ) → join_numbers cs ms ns ≡ join_numbers cs ns ms
numbers-comm [] ms ns = refl
numbers-comm (c ∷ cs) [] [] = refl
numbers-comm (c ∷ cs) [] (n ∷ ns) = refl
numbers-comm (c ∷ cs) (m ∷ ms) [] = refl
numbers-comm (c ∷ cs) (m ∷ ms) (n ∷ ns) = (λ i. number-comm c m n i ∷ numbers-comm cs ms ns i)

pub numbers-assoc : (cs : List Column) (ks ms ns : List ℤ) → join_numbers cs (join_numbers cs ks ms) ns ≡ join_numbers cs ks (join_numbers cs ms ns)
numbers-assoc [] ks ms ns = refl
numbers-assoc (c ∷ cs) [] ms ns = refl
numbers-assoc (c ∷ cs) (k ∷ ks) [] ns = refl
numbers-assoc (c ∷ cs) (k ∷ ks) (m ∷ ms) [] = refl
numbers-assoc (c ∷ cs) (k ∷ ks) (m ∷ ms) (n ∷ ns) = (λ i. number-assoc c k m n i ∷ numbers-assoc cs ks ms ns i)

-- the numbers of one fact
abbrev pub one : List Column → Fact → List ℤ
one cs x = numbers_of cs (x ∷ [])

number-more : (c : Column) (x y : Fact) (ys : List Fact) → number_of (x ∷ y ∷ ys) c ≡ join_number c (number_of (x ∷ []) c) (number_of (y ∷ ys) c)
number-more Count x y ys = omega (arith, ints)
number-more (Sum m) x y ys = ap (λ z. z +ℤ total (numbers_at m (y ∷ ys))) (sym (+ℤ_idr (measure_at m x)))
number-more (Min m) x y ys = refl
number-more (Max m) x y ys = refl

-- the numbers of facts are those of the first and of the others, joined
pub numbers-more : (cs : List Column) (x y : Fact) (ys : List Fact) → numbers_of cs (x ∷ y ∷ ys) ≡ join_numbers cs (one cs x) (numbers_of cs (y ∷ ys))
numbers-more [] x y ys = refl
numbers-more (c ∷ cs) x y ys = (λ i. number-more c x y ys i ∷ numbers-more cs x y ys i)

-- ---- lengths and magnitudes

number-size : (c : Column) (m n : ℤ) → nat_abs (join_number c m n) ≤ nat_abs m + nat_abs n
number-size Count m n = omega (arith, ints)
number-size (Sum measure) m n = omega (arith, ints)
number-size (Min measure) m n = omega (arith, ints, clamps)
number-size (Max measure) m n = omega (arith, ints, clamps)

-- joined numbers are no greater than both together
pub numbers-size : (i : ℕ) (cs : List Column) (ms ns : List ℤ) → size_at i (join_numbers cs ms ns) ≤ size_at i ms + size_at i ns
numbers-size i [] ms ns = omega (arith, ints)
numbers-size i (c ∷ cs) [] ns = omega (arith, ints)
numbers-size i (c ∷ cs) (m ∷ ms) [] = omega (arith, ints)
numbers-size zero (c ∷ cs) (m ∷ ms) (n ∷ ns) = number-size c m n
numbers-size (suc i) (c ∷ cs) (m ∷ ms) (n ∷ ns) = numbers-size i cs ms ns

-- there is a number for each column
pub numbers-length : (cs : List Column) (ms ns : List ℤ) → length ms ≡ length cs → length ns ≡ length cs → length (join_numbers cs ms ns) ≡ length cs
numbers-length [] ms ns a b = refl
numbers-length (c ∷ cs) [] ns a b = a
numbers-length (c ∷ cs) (m ∷ ms) [] a b = b
numbers-length (c ∷ cs) (m ∷ ms) (n ∷ ns) a b = ap suc (numbers-length cs ms ns (omega (arith, a)) (omega (arith, b)))
