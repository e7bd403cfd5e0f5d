-- Numbers joined in place, column by column.
use Rattle.std.proofs.Common.{◌≡◌, ℕ, zero, suc, ◌+◌, ◌<◌, ◌≤◌, List, [], ◌∷◌, ◌++◌, length, get_or, set, take, drop, ℤ, pos, refl, ◌∙◌, ap, arith}
use Rattle.fact_model.specs.declared.slice.Column.{Column}
use Rattle.fact_model.specs.declared.slice.Column.TheVariants.{Count}
use Rattle.row_fold.specs.Joins.{CanJoin, join_number, join_numbers}

-- so many columns are joined
abbrev pub joined_to : List Column → List ℤ → List ℤ → ℕ → List ℤ
joined_to cs ns old i = join_numbers (take i cs) (take i ns) (take i old) ++ drop i old

-- the next number is still the old one
next-old : (cs : List Column) (ns old : List ℤ) (i : ℕ) (d : ℤ) → length ns ≡ length cs → length old ≡ length cs → i < length cs → get_or (joined_to cs ns old i) i d ≡ get_or old i d
next-old [] ns old i d a b l = absurd (omega arith)
next-old (c ∷ cs) [] old i d a b l = absurd (omega (arith, a))
next-old (c ∷ cs) (n ∷ ns) [] i d a b l = absurd (omega (arith, b))
next-old (c ∷ cs) (n ∷ ns) (o ∷ old) zero d a b l = refl
next-old (c ∷ cs) (n ∷ ns) (o ∷ old) (suc i) d a b l = next-old cs ns old i d (omega (arith, a)) (omega (arith, b)) (omega arith)

next-set : (cs : List Column) (ns old : List ℤ) (i : ℕ) (c : Column) (n o : ℤ) → length ns ≡ length cs → length old ≡ length cs → i < length cs
    → c ≡ get_or cs i Count → n ≡ get_or ns i (pos 0) → o ≡ get_or old i (pos 0) → set (joined_to cs ns old i) i (join_number c n o) ≡ joined_to cs ns old (suc i)
next-set [] ns old i c n o a b l ec en eo = absurd (omega arith)
next-set (k ∷ cs) [] old i c n o a b l ec en eo = absurd (omega (arith, a))
next-set (k ∷ cs) (m ∷ ns) [] i c n o a b l ec en eo = absurd (omega (arith, b))
next-set (k ∷ cs) (m ∷ ns) (p ∷ old) zero c n o a b l ec en eo = λ i. join_number (ec i) (en i) (eo i) ∷ old
next-set (k ∷ cs) (m ∷ ns) (p ∷ old) (suc i) c n o a b l ec en eo = ap (λ r. join_number k m p ∷ r) (next-set cs ns old i c n o (omega (arith, a)) (omega (arith, b)) (omega arith) ec en eo)

module _ (cs : List Column) (ns old : List ℤ) (can : CanJoin cs ns old) where
  -- one column more
  pub column-more : (sums new : List ℤ) (i : ℕ) (c : Column) (n o x : ℤ) → i < length cs → sums ≡ joined_to cs ns old i
      → c ≡ get_or cs i Count → n ≡ get_or ns i (pos 0) → o ≡ get_or sums i (pos 0) → x ≡ join_number c n o → new ≡ set sums i x → new ≡ joined_to cs ns old (i + 1)
  column-more sums new i c n o x l so_far ec en eo ex is =
      let next : suc i ≡ i + 1 = omega arith in
      let was : o ≡ get_or old i (pos 0) = eo ∙ (ap (λ s. get_or s i (pos 0)) so_far ∙ next-old cs ns old i (pos 0) can.first can.second l) in
      is ∙ ((λ j. set (so_far j) i (ex j)) ∙ (next-set cs ns old i c n o can.first can.second l ec en was ∙ ap (joined_to cs ns old) next))

-- all columns are joined
pub columns-all : (cs : List Column) (ns old : List ℤ) (i : ℕ) → length ns ≡ length cs → length old ≡ length cs → length cs ≤ i → joined_to cs ns old i ≡ join_numbers cs ns old
columns-all [] ns [] zero a b l = refl
columns-all [] ns [] (suc i) a b l = refl
columns-all [] ns (o ∷ old) i a b l = absurd (omega (arith, b))
columns-all (c ∷ cs) ns old zero a b l = absurd (omega arith)
columns-all (c ∷ cs) [] old (suc i) a b l = absurd (omega (arith, a))
columns-all (c ∷ cs) (n ∷ ns) [] (suc i) a b l = absurd (omega (arith, b))
columns-all (c ∷ cs) (n ∷ ns) (o ∷ old) (suc i) a b l = ap (λ r. join_number c n o ∷ r) (columns-all cs ns old i (omega (arith, a)) (omega (arith, b)) (omega arith))
