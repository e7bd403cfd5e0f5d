-- The limits of values.
use Rattle.std.specs.Prelude.{◌≤◌, length}
use Rattle.fact_model.specs.declared.fact.Value.{Value}
use Rattle.fact_model.specs.declared.fact.Value.TheVariants.{Word, Number}
use Rattle.fact_model.specs.Limits.{number_limit}

-- a text has at most 255 bytes, and a number is within its limit
abbrev pub IsSmall : Value → Type 0
IsSmall (Word t) = length t ≤ 255
IsSmall (Number n) = n ≤ number_limit
