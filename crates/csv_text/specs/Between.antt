-- A writer of `csv` between two rows.
use Rattle.std.specs.Prelude.{ℕ, ◌≡◌, ◌++◌, List, [], true, false, Vec}
use Rattle.std.specs.declared.alloc.Global.{Global}
use Rattle.csv.specs.Records.{partial_of}
use Rattle.csv.specs.Writing.{default_writer, with_flexible, writer_setup, fields_written, has_written, writer_under, writer_pending}
use Rattle.csv.specs.declared.writer.Writer.{Writer}
use Rattle.csv.specs.declared.record.ByteRecord.{ByteRecord}

-- the text written
abbrev pub text_of : Writer (Vec ℕ Global) → List ℕ
text_of writer = (writer_under writer).items ++ writer_pending writer

pub record IsBetween (writer : Writer (Vec ℕ Global)) (row : ByteRecord) : Type 0 where
  -- rows may differ in their number of fields
  pub setup : writer_setup writer ≡ with_flexible default_writer true
  -- no row has begun in the writer
  pub fields : fields_written writer ≡ 0
  pub wrote : has_written writer ≡ false
  -- the last field of the row is complete
  pub whole : partial_of row ≡ []
