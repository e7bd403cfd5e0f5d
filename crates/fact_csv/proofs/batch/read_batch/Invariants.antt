use Rattle.std.proofs.Common.{◌≡◌, ◌++◌, ℕ, List, length, OnOk}
use Rattle.csv_text.specs.Reader.{IsBlockReader, left_by}
use Rattle.csv_text.specs.Records.{records_of}
use Rattle.fact_csv.specs.Batch.{AreRead}
use Rattle.fact_batch.specs.Batch.{IsBetween}
use Rattle.fact_csv.specs.Drafts.{drafted}
use Rattle.fact_csv.proofs.batch.read_batch.Given as goal

-- the records that were taken are read, and with those left they are all
abbrev pub invariant-loop-row : goal.invariant-loop-row
invariant-loop-row l = record {
  reads : IsBlockReader l.reader;
  rows : List (List (List ℕ));
  count : length rows ≡ l.row;
  all : rows ++ left_by l.reader ≡ records_of l.block;
  between : OnOk l.so_far (IsBetween (length l.schema.attrs) (length l.schema.measures) l.builder);
  read : AreRead l.schema rows (drafted l.so_far l.builder);
}
