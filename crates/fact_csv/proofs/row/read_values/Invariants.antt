use Rattle.std.proofs.Common.{◌≡◌}
use Rattle.csv.specs.Records.{fields_of}
use Rattle.fact_csv.specs.Batch.{value_answers}
use Rattle.fact_csv.proofs.Gathering.{AreTaken}
use Rattle.fact_csv.proofs.row.read_values.Given as goal

abbrev pub invariant-loop-i : goal.invariant-loop-i
invariant-loop-i l = record {
  taken : AreTaken l.builder.values l.i (value_answers l.row l.attrs (fields_of l.fields));
  rest : l.builder ≡ record l.fn.builder { values = l.builder.values };
}
