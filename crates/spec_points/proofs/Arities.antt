-- Coded facts have places of the view's arity, places of a smaller arity come before, and a place tells its arity.
use Rattle.std.proofs.Common.{◌≡◌, ℕ, zero, suc, ◌-◌, ◌<◌, ◌≤◌, true, false, List, [], ◌∷◌, ◌++◌, length, replicate, refl, ◌∙◌, ap, arith, map, Option, Some, None, unwrap_or, is_some, sym, subst, true≢false}
use Rattle.std.proofs.lemmas.List.{length-map}
use Rattle.std.specs.declared.cmp.Ordering.TheVariants.{Less, Equal, Greater}
use Rattle.std.specs.List.{AllByRecursion, All}
use Rattle.std.specs.Ordering.{is_lt}
use Rattle.fact_model.specs.declared.fact.Value.{Value}
use Rattle.fact_model.specs.declared.fact.Fact.{Fact}
use Rattle.fact_model.specs.declared.cell.Cell.{Cell}
use Rattle.fact_model.specs.Distinct.{by_order}
use Rattle.fact_model.specs.Fact.{value_at}
use Rattle.fact_model.specs.Cell.{join}
use Rattle.cube_point.specs.Points.{point_cmp}
use Rattle.cube_point.proofs.PointOrder.{point-total, point-only}
use Rattle.row_fold.specs.Merge.{before}
use Rattle.spec_points.specs.Arity.{HasArity, arity_of}
use Rattle.spec_points.specs.Codes.{Text, code_in}
use Rattle.spec_points.specs.Points.{Names, coord, place_of, points_by, View, PlacedCell}
use Rattle.spec_points.specs.Agree.{HasCode, IsCoded}
use Rattle.row_fold.proofs.Groups.{greater-from_less}
use Rattle.spec_points.proofs.Points.{points-grouped}
use Rattle.row_fold.proofs.Grouping.{grouped, put}
use Rattle.spec_points.proofs.Members.{every-map, All-from_every, every-from_All}
use Rattle.spec_points.proofs.Cells.{one_cell}
use Rattle.spec_points.proofs.Codes.{code-positive}
use Rattle.spec_points.proofs.Orders.{smaller-first}

-- a value that has a code has a coordinate above 0
pub coord-positive : (ts : List Text) (v : Value) → HasCode ts v → 1 ≤ coord ts v
coord-positive ts v h = by (code_in ts v) refl h
  where
    by : (o : Option ℕ) → code_in ts v ≡ o → is_some o ≡ true → 1 ≤ unwrap_or o 0
    by None p q = absurd (true≢false (sym q))
    by (Some c) p q = code-positive ts v c p

coords-positive : (ns : Names) (view : View) (x : Fact) → IsCoded ns x → AllByRecursion (λ c. 1 ≤ c) (map (λ a. coord (ns a) (value_at x a)) view)
coords-positive ns [] x h = tt
coords-positive ns (a ∷ view) x h = (coord-positive (ns a) (value_at x a) (h a), coords-positive ns view x h)

-- the place of a coded fact
pub place-arity : (ns : Names) (view : View) (x : Fact) → IsCoded ns x → HasArity (length view) (place_of ns view x)
place-arity ns view x h = (map (λ a. coord (ns a) (value_at x a)) view, length-map view (λ a. coord (ns a) (value_at x a)), coords-positive ns view x h, refl)

-- the property of each place
abbrev pub Keyed : (List ℕ → Type 0) → List PlacedCell → Type 0
Keyed P es = AllByRecursion (λ e. P e.0) es

keyed-put : (P : List ℕ → Type 0) (k : List ℕ) (c : Cell) (es : List PlacedCell) → P k → Keyed P es → Keyed P (put point_cmp join k c es)
keyed-put P k c [] p h = (p, tt)
keyed-put P k c (e ∷ es) p h = elim (point_cmp k e.0) as (λ r. Keyed P (by_order r ((k, c) ∷ (e ∷ es)) ((k, join c e.1) ∷ es) (e ∷ put point_cmp join k c es)))
    [ Less ↦ (p, h) | Equal ↦ (p, h.1) | Greater ↦ (h.0, keyed-put P k c es p h.1) ]

-- the places of groups are those of their items
pub keyed-grouped : {X : Type 0} (P : List ℕ → Type 0) (key : X → List ℕ) (one : X → Cell) (xs : List X) → AllByRecursion (λ x. P (key x)) xs → Keyed P (grouped point_cmp join key one xs)
keyed-grouped P key one [] h = tt
keyed-grouped P key one (x ∷ xs) h = keyed-put P (key x) (one x) (grouped point_cmp join key one xs) h.0 (keyed-grouped P key one xs h.1)

-- the same, by recursion
pub each-arity : (ns : Names) (n : ℕ) (view : View) (facts : List Fact) → AllByRecursion (IsCoded ns) facts → AllByRecursion (λ (e : PlacedCell). HasArity (length view) e.0) (points_by ns n view facts)
each-arity ns n view facts h = subst (Keyed (HasArity (length view))) (sym (points-grouped ns n view facts))
    (keyed-grouped (HasArity (length view)) (place_of ns view) (one_cell n) facts (every-map (IsCoded ns) (λ x. HasArity (length view) (place_of ns view x)) (λ x c. place-arity ns view x c) facts h))

-- coded facts have places of the view's arity
pub points-arity : (ns : Names) (n : ℕ) (view : View) (facts : List Fact) → All (IsCoded ns) facts → All (λ (e : PlacedCell). HasArity (length view) e.0) (points_by ns n view facts)
points-arity ns n view facts h = All-from_every (λ (e : PlacedCell). HasArity (length view) e.0) (points_by ns n view facts) (each-arity ns n view facts (every-from_All (IsCoded ns) facts h))

-- a place of a smaller arity comes first
pub arity-first : (m n : ℕ) (j k : List ℕ) → m < n → n ≤ 8 → HasArity m j → HasArity n k → point_cmp j k ≡ Less
arity-first m n j k l b p q = (λ i. point_cmp (p.3 i) (q.3 i)) ∙ smaller-first p.0 q.0 (omega (arith, p.1, q.1)) (omega (arith, q.1)) q.2

-- points of a smaller arity come before, both ways told by the test
pub arities-apart : {C : Type 0} (m n : ℕ) (d e : List ℕ × C) → m < n → n ≤ 8 → HasArity m d.0 → HasArity n e.0 → (before point_cmp d e ≡ true) × (before point_cmp e d ≡ false)
arities-apart m n d e l b p q = let r = arity-first m n d.0 e.0 l b p q in (ap is_lt r, ap is_lt (greater-from_less point_cmp point-total point-only d.0 e.0 r))

arity-padded : (cs : List ℕ) (q : ℕ) → AllByRecursion (λ c. 1 ≤ c) cs → arity_of (cs ++ replicate q 0) ≡ length cs
arity-padded [] zero h = refl
arity-padded [] (suc q) h = refl
arity-padded (zero ∷ cs) q h = absurd (omega (arith, h.0))
arity-padded (suc c ∷ cs) q h = ap suc (arity-padded cs q h.1)

-- a place tells its arity
pub arity-of : (n : ℕ) (k : List ℕ) → HasArity n k → arity_of k ≡ n
arity-of n k h = ap arity_of h.3 ∙ (arity-padded h.0 (8 - length h.0) h.2 ∙ h.1)
