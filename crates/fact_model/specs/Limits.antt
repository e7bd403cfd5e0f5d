-- The limits of numbers.
use Rattle.std.specs.Prelude.{ℕ, ◌-◌, ◌^◌, ◌≤◌}
use Rattle.fact_model.specs.declared.fact.Value.{Value}
use Rattle.fact_model.specs.declared.fact.Value.TheVariants.{Word, Number}
use Rattle.fact_model.specs.declared.fact.Fact.{Fact}
use Rattle.fact_model.specs.Fact.{value_at}

-- the greatest number that an attribute may have
abbrev pub number_limit : ℕ
number_limit = 2 ^ 63 - 1

-- a number is within the limit
abbrev pub IsWithin : ℕ → Value → Type 0
IsWithin limit (Word t) = Unit {0}
IsWithin limit (Number n) = n ≤ limit

-- all numbers among the values of the fact are within the limit
abbrev pub HasNumbersWithin : ℕ → Fact → Type 0
HasNumbersWithin limit x = (a : ℕ) → IsWithin limit (value_at x a)
