-- Calls that are to fail.
use Rattle.std.specs.Prelude.{◌≡◌, ℕ, ◌≤◌, ⊤, Option, Some, None, List, [], ◌∷◌, ◌++◌, Contains}
use Rattle.site_mem.specs.declared.log.Turn.{Turn}
use Rattle.site_mem.specs.declared.log.Turn.TheVariants.{Goes, Fails, Stops, Starves}

-- this number is at the stop or past it
abbrev pub IsPast : Option ℕ → ℕ → Type 0
IsPast None number = ⊥
IsPast (Some stop) number = stop ≤ number

-- past the stop nothing goes; before it a call fails where its number was named
abbrev pub IsTurn : Option ℕ → List ℕ → ℕ → Turn → Type 0
IsTurn stop fails number Goes = (IsPast stop number → ⊥) × (Contains fails number → ⊥)
IsTurn stop fails number Fails = (IsPast stop number → ⊥) × Contains fails number
IsTurn stop fails number Stops = IsPast stop number
IsTurn stop fails number Starves = ⊤

-- something is noted of a call behind what was noted of the others, unless there was no memory for it
abbrev pub IsNoted : {X : Type 0} → Turn → X → List X → List X → Type 0
IsNoted Starves x old new = new ≡ old
IsNoted _ x old new = new ≡ old ++ x ∷ []
