use Rattle.std.proofs.Common.{◌≡◌, ◌||◌, drop}
use Rattle.std.specs.List.{list_any}
use Rattle.fact_model.specs.declared.fact.Value as facts
use Rattle.sql_lang.specs.Tests.{is_operand}
use Rattle.sql_slice.specs.Lists.{has_value}
use Rattle.sql_slice.proofs.lists.values_of.Given as goal

-- the values so far and those to come are all
abbrev pub invariant-loop-value : goal.invariant-loop-value
invariant-loop-value l = record {
  attr : l.list.attr ≡ l.attr;
  rest : (v : facts.Value) → (has_value l.list v || list_any (is_operand v) (drop l.value-index l.values)) ≡ list_any (is_operand v) l.values;
}
