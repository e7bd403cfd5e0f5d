use Rattle.std.proofs.Common.{◌≤◌, ◌-◌, drop, map}
use Rattle.csv.specs.Records.{fields_of}
use Rattle.fact_csv.proofs.Gathering.{AreTaken}
use Rattle.reply_fold.specs.Rows.{number_at}
use Rattle.reply_fold.proofs.rows.read_numbers.Given as goal

abbrev pub invariant-loop-i : goal.invariant-loop-i
invariant-loop-i l = record {
  from : l.values ≤ l.i;
  taken : AreTaken l.numbers (l.i - l.values) (map (number_at l.number) (drop l.values (fields_of l.fields)));
}
