use Rattle.std.proofs.Common.{◌∙◌}
use Rattle.csv.specs.Reading.{strip_bom}
use Rattle.csv_text.specs.Reader.{records_left}
use Rattle.csv_text.specs.Records.{records_of}
use Rattle.csv_text.proofs.AllRecords.{all_left}
use Rattle.csv_text.proofs.records.block_reader.Goals as goal

pub returns-clause-all : goal.returns-clause-all
unfolding records_of
returns-clause-all c = (λ i. records_left (c.from_reader.ensures.state i) (c.from_reader.ensures.source i)) ∙ all_left (strip_bom c.args.block.now)
