-- The facts that are made from a number.
use Rattle.std.specs.Prelude.{ℕ, zero, suc, ◌+◌, ◌%◌, min, ℤ, pos, ◌-ℤ◌, List, [], ◌∷◌, ◌++◌, length, codes, decimal}
use Rattle.lcg.specs.Draw.{next_state, draw, state_after}
use Rattle.cube_schema.specs.declared.schema.Attr.{Attr}
use Rattle.cube_schema.specs.declared.schema.Kind.{Kind}
use Rattle.cube_schema.specs.declared.schema.Kind.TheVariants as kind
use Rattle.cube_schema.specs.declared.schema.Schema.{Schema}
use Rattle.fact_model.specs.declared.fact.Fact.{Fact}
use Rattle.fact_model.specs.declared.fact.Value.{Value}
use Rattle.fact_model.specs.declared.fact.Value.TheVariants.{Word, Number}

-- the value that a drawn number gives an attribute: one of the texts `v0`, `v1` .., at most `max` and 1000 of them, or a number below 1000
abbrev pub value_of : Kind → ℕ → Value
value_of (kind.Word max) drawn = Word (codes "v" ++ decimal (drawn % min max 1000))
value_of kind.Number drawn = Number (drawn % 1000)

-- the number that it gives a measure, from -1000 to 1000
abbrev pub measure_of : ℕ → ℤ
measure_of drawn = pos (drawn % 2001) -ℤ pos 1000

-- the values of these attributes, one draw each from this state on
abbrev pub values_from : List Attr → ℕ → List Value
values_from [] state = []
values_from (attr ∷ attrs) state = value_of attr.kind (draw state) ∷ values_from attrs (next_state state)

-- the numbers of the measures of these names, likewise
abbrev pub measures_from : List (List ℕ) → ℕ → List ℤ
measures_from [] state = []
measures_from (name ∷ names) state = measure_of (draw state) ∷ measures_from names (next_state state)

-- how many draws a fact takes
abbrev pub width : Schema → ℕ
width schema = length schema.attrs + length schema.measures

-- the fact that is drawn from this state on: the values first, then the measures
abbrev pub fact_from : Schema → ℕ → Fact
fact_from schema state = record {
  values = values_from schema.attrs state;
  measures = measures_from schema.measures (state_after state (length schema.attrs));
}

-- so many facts, each drawn from where the one before it ended
abbrev pub generated : Schema → ℕ → ℕ → List Fact
generated schema state zero = []
generated schema state (suc rows) = fact_from schema state ∷ generated schema (state_after state (width schema)) rows
