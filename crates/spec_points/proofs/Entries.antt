-- Points as pairs and as entries: each is told by the other, and they come in the same order.
use Rattle.std.proofs.Common.{◌≡◌, ℕ, zero, suc, ◌<◌, ◌≤◌, ◌-◌, ◌++◌, List, [], ◌∷◌, length, replicate, refl, sym, ◌∙◌, ap, subst, arith}
use Rattle.std.specs.Prelude.{slice_index}
use Rattle.std.specs.List.{AllByRecursion, All}
use Rattle.fact_model.specs.declared.fact.Fact.{Fact}
use Rattle.cube_point.specs.declared.point.Point.{Point}
use Rattle.cube_point.specs.declared.point.Entry.{Entry}
use Rattle.cube_point.specs.Points.{IsPoint, point_cmp, comes_before}
use Rattle.spec_points.specs.Points.{PlacedCell, Names, View, points_by}
use Rattle.spec_points.specs.Arity.{arity_of, HasArity}
use Rattle.row_fold.specs.Merge.{before}
use Rattle.spec_points.specs.Entries.{entry_of, pair_of}
use Rattle.spec_points.specs.Agree.{IsCoded}
use Rattle.spec_points.proofs.Arities.{arity-of, points-arity}
use Rattle.spec_points.proofs.Members.{All-map}

-- ---- back and forth

-- a pair is told by its entry
pub pair-entry : (e : PlacedCell) → pair_of (entry_of e) ≡ e
pair-entry e = refl

-- the arity of a place is where its coordinates are positive before and zero from there on
arity-told : (at : List ℕ) (n : ℕ) → ((i : ℕ) → i < n → 0 < slice_index at i) → ((i : ℕ) → n ≤ i → slice_index at i ≡ 0) → arity_of at ≡ n
arity-told [] zero used unused = refl
arity-told [] (suc n) used unused = absurd (omega (arith, used 0 (omega arith)))
arity-told (zero ∷ at) zero used unused = refl
arity-told (zero ∷ at) (suc n) used unused = absurd (omega (arith, used 0 (omega arith)))
arity-told (suc c ∷ at) zero used unused = absurd (omega (arith, unused 0 (omega arith)))
arity-told (suc c ∷ at) (suc n) used unused = ap suc (arity-told at n (λ i low. used (suc i) (omega arith)) (λ i high. unused (suc i) (omega arith)))

-- the arity of a point is told by its coordinates
pub arity-point : (p : Point) → IsPoint p → arity_of p.at ≡ p.arity
arity-point p is = arity-told p.at p.arity is.used is.unused

-- an entry of a point is told by its pair
pub entry-pair : (entry : Entry) → IsPoint entry.point → entry_of (pair_of entry) ≡ entry
entry-pair entry is = λ i. record { point = record { arity = arity-point entry.point is i; at = entry.point.at }; cell = entry.cell }

-- ---- the order

-- entries come in the order of their pairs
pub before-entries : (d e : PlacedCell) → comes_before (entry_of d).point (entry_of e).point ≡ before point_cmp d e
before-entries d e = refl

-- pairs come in the order of their entries
pub before-pairs : (d e : Entry) → before point_cmp (pair_of d) (pair_of e) ≡ comes_before d.point e.point
before-pairs d e = refl

-- ---- the entries of places of one arity are points

used-padded : (codes : List ℕ) (q : ℕ) → AllByRecursion (λ c. 1 ≤ c) codes → (i : ℕ) → i < length codes → 0 < slice_index (codes ++ replicate q 0) i
used-padded [] q h i low = absurd (omega arith)
used-padded (c ∷ codes) q h zero low = omega (arith, h.0)
used-padded (c ∷ codes) q h (suc i) low = used-padded codes q h.1 i (omega arith)

unused-zeros : (q i : ℕ) → slice_index (replicate q 0) i ≡ 0
unused-zeros zero i = refl
unused-zeros (suc q) zero = refl
unused-zeros (suc q) (suc i) = unused-zeros q i

unused-padded : (codes : List ℕ) (q i : ℕ) → length codes ≤ i → slice_index (codes ++ replicate q 0) i ≡ 0
unused-padded [] q i high = unused-zeros q i
unused-padded (c ∷ codes) q zero high = absurd (omega arith)
unused-padded (c ∷ codes) q (suc i) high = unused-padded codes q i (omega arith)

-- a place of this arity makes a point
pub point-entry : (n : ℕ) (e : PlacedCell) → n ≤ 8 → HasArity n e.0 → IsPoint (entry_of e).point
point-entry n e few h =
    let arity = arity-of n e.0 h in
    record {
      arity = omega arith;
      used = λ i low. subst (λ at. 0 < slice_index at i) (sym h.3) (used-padded h.0 (8 - length h.0) h.2 i (omega (arith, h.1)));
      unused = λ i high. ap (λ at. slice_index at i) h.3 ∙ unused-padded h.0 (8 - length h.0) i (omega (arith, h.1));
    }

-- the points of coded facts, as entries
pub entries-are_points : (ns : Names) (n : ℕ) (view : View) (facts : List Fact) → length view ≤ 8 → All (IsCoded ns) facts → All (λ e. IsPoint (entry_of e).point) (points_by ns n view facts)
entries-are_points ns n view facts few coded =
    All-map (λ (e : PlacedCell). HasArity (length view) e.0) (λ e. IsPoint (entry_of e).point) (λ e h. point-entry (length view) e few h) (points_by ns n view facts) (points-arity ns n view facts coded)
