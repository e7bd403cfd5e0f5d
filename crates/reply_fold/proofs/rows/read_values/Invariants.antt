use Rattle.std.proofs.Common.{map}
use Rattle.std.specs.List.{zip}
use Rattle.csv.specs.Records.{fields_of}
use Rattle.cube_schema.specs.Kinds.{kind_at}
use Rattle.fact_csv.proofs.Gathering.{AreTaken}
use Rattle.reply_fold.specs.Rows.{value_in}
use Rattle.reply_fold.proofs.rows.read_values.Given as goal

abbrev pub invariant-loop-i : goal.invariant-loop-i
invariant-loop-i l = AreTaken l.values l.i (map (λ p. value_in (kind_at l.schema p.0) l.number p.1) (zip l.group (fields_of l.fields)))
