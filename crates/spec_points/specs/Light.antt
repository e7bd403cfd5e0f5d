-- Facts and cells that add up within their types.
use Rattle.std.specs.Prelude.{◌≡◌, ◌<◌, ◌≤◌, ◌^◌, ℕ, List}
use Rattle.std.specs.List.{AllByRecursion}
use Rattle.fact_model.specs.declared.fact.Fact.{Fact}
use Rattle.fact_model.specs.Fact.{mass, mass_limit}
use Rattle.spec_points.specs.Points.{PlacedCell}
use Rattle.spec_points.specs.Weights.{weight, size_at, count_in}

-- the masses of the first four measures are within the limit
abbrev pub KeepMasses : List Fact → Type 0
KeepMasses facts = (m : ℕ) → m < 4 → mass m facts ≤ mass_limit

-- cells of this many measures that can all be joined: no sum or count of any part of them passes its type
pub record IsLight (measures : ℕ) (es : List PlacedCell) : Type 0 where
  pub masses : (m : ℕ) → m < 4 → weight (size_at m) es ≤ mass_limit
  pub count : weight count_in es < 2 ^ 64
  pub same : AllByRecursion (λ (e : PlacedCell). e.1.measures ≡ measures) es
