-- Light cells join, and so do those that come of them.
use Rattle.std.proofs.Common.{◌≡◌, ℕ, ◌+◌, ◌<◌, ◌≤◌, max, List, ◌∷◌, ap, ◌∙◌, arith}
use Rattle.std.proofs.lemmas.Int.{ints}
use Rattle.fact_model.specs.declared.cell.Cell.{Cell}
use Rattle.fact_model.specs.Fact.{mass_limit}
use Rattle.fact_model.specs.Cell.{join, SumFitsAt, FitCells}
use Rattle.spec_points.specs.Light.{IsLight}
use Rattle.spec_points.specs.Points.{PlacedCell}
use Rattle.spec_points.specs.Weights.{size_at, count_in}
use Rattle.spec_points.proofs.Sums.{join-size}

-- two sums of such magnitudes add up
pub sum-fits : (c d : Cell) (m : ℕ) → size_at m c + size_at m d ≤ mass_limit → SumFitsAt c d m
sum-fits c d m l = omega (arith, ints)

pub light-fits : (n : ℕ) (e d : PlacedCell) (es : List PlacedCell) → IsLight n (e ∷ d ∷ es) → FitCells e.1 d.1
light-fits n e d es is =
    record { count = omega (arith, is.count); first = at 0 (omega arith); second = at 1 (omega arith); third = at 2 (omega arith); fourth = at 3 (omega arith) }
  where
    at : (m : ℕ) → m < 4 → SumFitsAt e.1 d.1 m
    at m l = sum-fits e.1 d.1 m (omega (arith, is.masses m l))

pub light-next : (n : ℕ) (e d : PlacedCell) (es : List PlacedCell) → IsLight n (e ∷ d ∷ es) → IsLight n (d ∷ es)
light-next n e d es is = record { masses = λ m l. omega (arith, is.masses m l); count = omega (arith, is.count); same = is.same.1 }

pub light-join : (n : ℕ) (e d j : PlacedCell) (es : List PlacedCell) → IsLight n (e ∷ d ∷ es) → j.1 ≡ join e.1 d.1 → IsLight n (j ∷ es)
light-join n e d j es is to = record {
  masses = λ m l. omega (arith, is.masses m l, join-size m e.1 d.1, ap (size_at m) to);
  count = omega (arith, is.count, ap count_in to);
  same = (ap (λ (c : Cell). c.measures) to ∙ (λ i. max (is.same.0 i) (is.same.1.0 i)) ∙ one n, is.same.1.1);
}
  where
    one : (n : ℕ) → max n n ≡ n
    one n = omega arith
