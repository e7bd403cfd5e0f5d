-- Facts whose points a leaf can hold.
use Rattle.std.specs.Prelude.{ℕ, ◌<◌, ◌≤◌, ◌^◌, List, length}
use Rattle.std.specs.List.{All}
use Rattle.fact_model.specs.declared.fact.Fact.{Fact}
use Rattle.fact_model.specs.Fact.{value_at, mass, mass_limit}
use Rattle.spec_points.specs.Points.{Names, coord}
use Rattle.spec_points.specs.Agree.{IsCoded}
use Rattle.page_fmt.specs.Formats.{is_wide}
use Rattle.page_entry.specs.Stored.{IsCoordinate}

-- the codes of the fact are coordinates in pages of this format
abbrev pub HasCodesFor : ℕ → Names → Fact → Type 0
HasCodesFor format names x = (a : ℕ) → IsCoordinate (is_wide format) (coord (names a) (value_at x a))

-- coded facts within the limits: of codes in pages of this format, of measures, of masses and of their number
pub record AreStorable (format : ℕ) (names : Names) (measures : ℕ) (facts : List Fact) : Type 0 where
  pub coded : All (IsCoded names) facts
  pub narrow : All (HasCodesFor format names) facts
  pub numbers : All (λ (x : Fact). length x.measures ≤ measures) facts
  pub masses : (m : ℕ) → m < 4 → mass m facts ≤ mass_limit
  pub few : length facts ≤ 2 ^ 40
