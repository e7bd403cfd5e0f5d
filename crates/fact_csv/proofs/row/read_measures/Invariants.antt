use Rattle.std.proofs.Common.{◌≡◌, ◌≤◌, ◌-◌}
use Rattle.csv.specs.Records.{fields_of}
use Rattle.fact_csv.specs.Batch.{measure_answers}
use Rattle.fact_csv.proofs.Gathering.{AreTaken}
use Rattle.fact_csv.proofs.row.read_measures.Given as goal

abbrev pub invariant-loop-i : goal.invariant-loop-i
invariant-loop-i l = record {
  from : l.attrs ≤ l.i;
  taken : AreTaken l.builder.numbers (l.i - l.attrs) (measure_answers l.row l.attrs (fields_of l.fields));
  rest : l.builder ≡ record l.fn.builder { numbers = l.builder.numbers };
}
