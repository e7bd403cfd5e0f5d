-- The records of a block.
use Rattle.std.specs.Prelude.{ℕ, List}
use Rattle.csv.specs.Reading.{default_config, records, strip_bom}

-- the records that `csv` reads, each as its fields: without a header row, and without a byte order mark at the start
unfoldable pub records_of : List ℕ → List (List (List ℕ))
records_of block = records default_config (strip_bom block)
