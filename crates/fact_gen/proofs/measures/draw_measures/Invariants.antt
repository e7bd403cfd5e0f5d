use Rattle.std.proofs.Common.{◌≡◌, ◌++◌, drop}
use Rattle.lcg.specs.Draw.{state_after}
use Rattle.fact_gen.specs.Generated.{measures_from}
use Rattle.fact_gen.proofs.measures.draw_measures.Given as goal

-- the numbers so far, with those to come, are the whole
abbrev pub invariant-loop-name : goal.invariant-loop-name
invariant-loop-name l = record {
  measures : l.builder.numbers ++ measures_from (drop l._name-index l.names) l.draws.state ≡ l.fn.builder.numbers ++ measures_from l.names l.fn.draws.state;
  rest : l.builder ≡ record l.fn.builder { numbers = l.builder.numbers };
  state : l.draws.state ≡ state_after l.fn.draws.state l._name-index;
}
