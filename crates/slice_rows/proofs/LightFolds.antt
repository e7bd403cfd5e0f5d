-- Light cells join as they come, whatever their places, and what comes of them is light.
use Rattle.std.proofs.Common.{◌≡◌, ℕ, ◌+◌, ◌<◌, ◌≤◌, ◌^◌, max, Bool, true, false, cond, List, [], ◌∷◌, sym, ◌∙◌, arith}
use Rattle.std.specs.List.{AllByRecursion}
use Rattle.fact_model.specs.declared.cell.Cell.{Cell}
use Rattle.fact_model.specs.Cell.{join, FitCells}
use Rattle.fact_model.specs.Fact.{mass_limit}
use Rattle.spec_points.specs.Points.{PlacedCell}
use Rattle.spec_points.specs.Weights.{weight, size_at, count_in}
use Rattle.spec_points.proofs.Sums.{join-size}
use Rattle.spec_points.specs.Light.{IsLight}
use Rattle.spec_points.proofs.Light.{sum-fits}
use Rattle.point_groups.specs.Folded.{AllJoinInto, JoinsInto, folded, taken}

module _ (same : List ℕ → List ℕ → Bool) (n : ℕ) where
  -- so far and still to come
  record AreLight (gs es : List PlacedCell) : Type 0 where
    masses : (m : ℕ) → m < 4 → weight (size_at m) gs + weight (size_at m) es ≤ mass_limit
    count : weight count_in gs + weight count_in es < 2 ^ 64
    have : AllByRecursion (λ (e : PlacedCell). e.1.measures ≡ n) gs
    come : AllByRecursion (λ (e : PlacedCell). e.1.measures ≡ n) es

  -- one entry more weighs no more than before
  weight-taken : (f : Cell → ℕ) → ((c d : Cell) → f (join c d) ≤ f c + f d) → (gs : List PlacedCell) (e : PlacedCell) → weight f (taken same gs e) ≤ weight f gs + f e.1
  weight-taken f law [] e = omega arith
  weight-taken f law (g ∷ gs) e = elim (same g.0 e.0) as (λ b. weight f (cond b ((g.0, join g.1 e.1) ∷ gs) (g ∷ taken same gs e)) ≤ f g.1 + weight f gs + f e.1)
      [ true ↦ omega (arith, law g.1 e.1) | false ↦ omega (arith, weight-taken f law gs e) ]

  one : (k : ℕ) → max k k ≡ k
  one k = omega arith

  measures-taken : (gs : List PlacedCell) (e : PlacedCell) → AllByRecursion (λ (e : PlacedCell). e.1.measures ≡ n) gs → e.1.measures ≡ n
      → AllByRecursion (λ (e : PlacedCell). e.1.measures ≡ n) (taken same gs e)
  measures-taken [] e have is = (is, tt)
  measures-taken (g ∷ gs) e have is = elim (same g.0 e.0) as (λ b. AllByRecursion (λ (e : PlacedCell). e.1.measures ≡ n) (cond b ((g.0, join g.1 e.1) ∷ gs) (g ∷ taken same gs e)))
      [ true ↦ ((λ i. max (have.0 i) (is i)) ∙ one n, have.1) | false ↦ (have.0, measures-taken gs e have.1 is) ]

  -- two of them fit
  fits : (g e : PlacedCell) → ((m : ℕ) → m < 4 → size_at m g.1 + size_at m e.1 ≤ mass_limit) → count_in g.1 + count_in e.1 < 2 ^ 64 → FitCells g.1 e.1
  fits g e masses count = record {
    count = count;
    first = sum-fits g.1 e.1 0 (masses 0 (omega arith));
    second = sum-fits g.1 e.1 1 (masses 1 (omega arith));
    third = sum-fits g.1 e.1 2 (masses 2 (omega arith));
    fourth = sum-fits g.1 e.1 3 (masses 3 (omega arith));
  }

  joins-light : (gs : List PlacedCell) (e : PlacedCell) → ((m : ℕ) → m < 4 → weight (size_at m) gs + size_at m e.1 ≤ mass_limit) → weight count_in gs + count_in e.1 < 2 ^ 64
      → AllByRecursion (λ (e : PlacedCell). e.1.measures ≡ n) gs → e.1.measures ≡ n → JoinsInto same gs e
  joins-light [] e masses count have is = tt
  joins-light (g ∷ gs) e masses count have is = (
    (λ here. record { measures = have.0 ∙ sym is; fit = fits g e (λ m low. omega (arith, masses m low)) (omega (arith, count)) }),
    joins-light gs e (λ m low. omega (arith, masses m low)) (omega (arith, count)) have.1 is,
  )

  next : (gs : List PlacedCell) (e : PlacedCell) (es : List PlacedCell) → AreLight gs (e ∷ es) → AreLight (taken same gs e) es
  next gs e es light = record {
    masses = λ m low. omega (arith, light.masses m low, weight-taken (size_at m) (join-size m) gs e);
    count = omega (arith, light.count, weight-taken count_in (λ c d. omega arith) gs e);
    have = measures-taken gs e light.have light.come.0;
    come = light.come.1;
  }

  all-light : (gs es : List PlacedCell) → AreLight gs es → AllJoinInto same gs es
  all-light gs [] light = tt
  all-light gs (e ∷ es) light = (
    joins-light gs e (λ m low. omega (arith, light.masses m low)) (omega (arith, light.count)) light.have light.come.0,
    all-light (taken same gs e) es (next gs e es light),
  )

  folded-light : (gs es : List PlacedCell) → AreLight gs es → AreLight (folded same gs es) []
  folded-light gs [] light = light
  folded-light gs (e ∷ es) light = folded-light (taken same gs e) es (next gs e es light)

  start : (es : List PlacedCell) → IsLight n es → AreLight [] es
  start es light = record { masses = λ m low. omega (arith, light.masses m low); count = omega (arith, light.count); have = tt; come = light.same }

  -- light entries join as they come
  pub light-gathers : (es : List PlacedCell) → IsLight n es → AllJoinInto same [] es
  light-gathers es light = all-light [] es (start es light)

  -- and are light still
  pub light-folded : (es : List PlacedCell) → IsLight n es → IsLight n (folded same [] es)
  light-folded es light =
      let end = folded-light [] es (start es light) in
      record { masses = λ m low. omega (arith, end.masses m low); count = omega (arith, end.count); same = end.have }
