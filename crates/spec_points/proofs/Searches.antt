-- A region holds no place of another arity, so a search of a tree finds its view's points alone.
use Rattle.std.proofs.Common.{◌≡◌, ℕ, zero, suc, ◌+◌, ◌-◌, ◌<◌, ◌≤◌, ◌==◌, nat_le, Bool, true, false, cond, List, [], ◌∷◌, ◌++◌, map, length, filter, replicate, Option, Some, None, refl, sym, ◌∙◌, ap, arith, inl, inr, append-nil, ◌≢◌}
use Rattle.std.proofs.lemmas.Bool.{cases_Bool, and_left, and_right, leb-true}
use Rattle.std.proofs.lemmas.List.Elements.{filter-append}
use Rattle.std.specs.List.{AllByRecursion}
use Rattle.fact_model.specs.declared.fact.Value.{Value}
use Rattle.fact_model.specs.declared.slice.Cond.TheVariants.{Equal, Between}
use Rattle.fact_model.specs.declared.fact.Fact.{Fact}
use Rattle.fact_model.specs.declared.slice.Cond.{Cond}
use Rattle.fact_model.specs.Slice.{attr_of}
use Rattle.spec_points.specs.Codes.{Text, code_in}
use Rattle.spec_points.specs.Points.{Names, points_by, tree_by, View, PlacedCell}
use Rattle.spec_points.specs.Answer.{within, just, codes_of, interval, region, inside, nothing, Interval}
use Rattle.spec_points.specs.Agree.{IsCoded}
use Rattle.spec_points.specs.Arity.{HasArity}
use Rattle.spec_points.proofs.Codes.{code-positive}
use Rattle.spec_points.proofs.Members.{every-map}
use Rattle.spec_points.proofs.Arities.{each-arity}

le-false : (m n : ℕ) → n < m → nat_le m n ≡ false
le-false m n l = elim (cases_Bool (nat_le m n)) [ inl e ↦ absurd (omega (arith, leb-true m n e)) | inr e ↦ e ]

inside-none : (g : ℕ → (ℕ × ℕ)) (low : (a : ℕ) → 1 ≤ (g a).0) (view cs : List ℕ) (p q : ℕ) → length view + p ≡ length cs + q → (length view ≢ length cs) → AllByRecursion (λ c. 1 ≤ c) cs
    → inside (map g view ++ replicate p (0, 0)) (cs ++ replicate q 0) ≡ false
inside-none g low [] [] p q e d h = absurd (d refl)
inside-none g low [] (c ∷ cs) zero q e d h = absurd (omega arith)
inside-none g low [] (c ∷ cs) (suc p) q e d h = and_left (within (0, 0) c) _ (and_right (nat_le 0 c) (nat_le c 0) (le-false c 0 h.0))
inside-none g low (v ∷ view) [] p zero e d h = absurd (omega arith)
inside-none g low (v ∷ view) [] p (suc q) e d h = and_left (within (g v) 0) _ (and_left (nat_le (g v).0 0) (nat_le 0 (g v).1) (le-false (g v).0 0 (low v)))
inside-none g low (v ∷ view) (c ∷ cs) p q e d h = and_right (within (g v) c) _ (inside-none g low view cs p q (omega arith) (λ s. d (omega arith)) h.1)

interval-low : (ns : Names) (cs : List Cond) (a : ℕ) → 1 ≤ (interval ns cs a).0
interval-low ns [] a = omega arith
interval-low ns (c ∷ cs) a = elim (attr_of c == a) as (λ b. 1 ≤ (cond {A = Interval} b (codes_of (ns a) c) (interval ns cs a)).0) [ true ↦ codes-low (ns a) c | false ↦ interval-low ns cs a ]
  where
    just-low : (ts : List Text) (v : Value) (o : Option ℕ) → code_in ts v ≡ o → 1 ≤ (just o).0
    just-low ts v None e = omega arith
    just-low ts v (Some c) e = code-positive ts v c e

    codes-low : (ts : List Text) (c : Cond) → 1 ≤ (codes_of ts c).0
    codes-low ts (Equal a v) = just-low ts v (code_in ts v) refl
    codes-low ts (Between a low high) = elim (nat_le low high) as (λ b. 1 ≤ (cond {A = Interval} b (suc low, suc high) nothing).0) [ true ↦ omega arith | false ↦ omega arith ]

-- no place of another arity is inside
pub no-other_arity : (ns : Names) (cs : List Cond) (view : View) (m : ℕ) (k : List ℕ) → length view ≤ 8 → m ≤ 8 → (m ≢ length view) → HasArity m k → inside (region ns cs view) k ≡ false
no-other_arity ns cs view m k a b d h = ap (inside (region ns cs view)) h.3
    ∙ inside-none (interval ns cs) (interval-low ns cs) view h.0 (8 - length view) (8 - length h.0) (omega (arith, h.1)) (λ e. d (sym h.1 ∙ sym e)) h.2

filter-none : {X : Type 0} (p : X → Bool) (xs : List X) → AllByRecursion (λ x. p x ≡ false) xs → filter p xs ≡ []
filter-none p [] h = refl
filter-none p (x ∷ xs) h = ap (λ (b : Bool). cond b (x ∷ filter p xs) (filter p xs)) h.0 ∙ filter-none p xs h.1

module _ (ns : Names) (n : ℕ) (facts : List Fact) (coded : AllByRecursion (IsCoded ns) facts) (cs : List Cond) (view : View) (long : length view ≤ 8) where
  abbrev Other : List ℕ → Type 0
  Other w = (length w ≤ 8) × (length w ≢ length view)

  others-out : (ws : List View) → AllByRecursion Other ws → filter (λ (e : PlacedCell). inside (region ns cs view) e.0) (tree_by ns n ws facts) ≡ []
  others-out [] h = refl
  others-out (w ∷ ws) h = filter-append (λ (e : PlacedCell). inside (region ns cs view) e.0) (points_by ns n w facts) (tree_by ns n ws facts)
      ∙ (λ i. filter-none (λ (e : PlacedCell). inside (region ns cs view) e.0) (points_by ns n w facts)
      (every-map (λ e. HasArity (length w) e.0) (λ e. inside (region ns cs view) e.0 ≡ false) (λ e p. no-other_arity ns cs view (length w) e.0 long h.0.0 h.0.1 p) (points_by ns n w facts) (each-arity ns n w facts coded)) i
      ++ others-out ws h.1 i)

  -- the search in the view's tree finds the view's points alone
  pub search-view : (us ws : List View) → AllByRecursion Other us → AllByRecursion Other ws
      → filter (λ (e : PlacedCell). inside (region ns cs view) e.0) (tree_by ns n (us ++ view ∷ ws) facts) ≡ filter (λ (e : PlacedCell). inside (region ns cs view) e.0) (points_by ns n view facts)
  search-view [] ws a b = filter-append (λ (e : PlacedCell). inside (region ns cs view) e.0) (points_by ns n view facts) (tree_by ns n ws facts)
      ∙ (ap (λ r. filter (λ (e : PlacedCell). inside (region ns cs view) e.0) (points_by ns n view facts) ++ r) (others-out ws b) ∙ append-nil _)
  search-view (u ∷ us) ws a b = filter-append (λ (e : PlacedCell). inside (region ns cs view) e.0) (points_by ns n u facts) (tree_by ns n (us ++ view ∷ ws) facts)
      ∙ (λ i. filter-none (λ (e : PlacedCell). inside (region ns cs view) e.0) (points_by ns n u facts)
      (every-map (λ e. HasArity (length u) e.0) (λ e. inside (region ns cs view) e.0 ≡ false) (λ e p. no-other_arity ns cs view (length u) e.0 long a.0.0 a.0.1 p) (points_by ns n u facts) (each-arity ns n u facts coded)) i
      ++ search-view us ws a.1 b i)
