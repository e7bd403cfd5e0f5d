use Rattle.std.proofs.Common.{◌≡◌, ◌++◌, drop}
use Rattle.lcg.specs.Draw.{state_after}
use Rattle.fact_gen.specs.Generated.{values_from}
use Rattle.fact_gen.proofs.values.draw_values.Given as goal

-- the values so far, with those to come, are the whole
abbrev pub invariant-loop-attr : goal.invariant-loop-attr
invariant-loop-attr l = record {
  values : l.builder.values ++ values_from (drop l.attr-index l.attrs) l.draws.state ≡ l.fn.builder.values ++ values_from l.attrs l.fn.draws.state;
  rest : l.builder ≡ record l.fn.builder { values = l.builder.values };
  state : l.draws.state ≡ state_after l.fn.draws.state l.attr-index;
}
