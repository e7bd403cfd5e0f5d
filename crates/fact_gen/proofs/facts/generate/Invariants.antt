use Rattle.std.proofs.Common.{◌≡◌, ◌-◌, ◌++◌, length}
use Rattle.fact_batch.specs.Batch.{IsBetween}
use Rattle.fact_gen.specs.Generated.{generated}
use Rattle.fact_gen.proofs.facts.generate.Given as goal

-- the facts so far, with those to come, are the whole
abbrev pub invariant-loop-row : goal.invariant-loop-row
invariant-loop-row l = record {
  between : IsBetween (length l.schema.attrs) (length l.schema.measures) l.builder;
  count : length l.builder.facts ≡ l._row;
  facts : l.builder.facts ++ generated l.schema l.draws.state (l.rows - l._row) ≡ generated l.schema l.start l.rows;
}
