use Rattle.std.proofs.Common.{◌≡◌, ◌<◌}
use Rattle.csv_text.specs.Reader.{IsBlockReader, left_by}
use Rattle.csv_text.specs.Records.{records_of}
use Rattle.reply_fold.specs.Replies.{rows_from}
use Rattle.reply_fold.specs.Taking.{left}
use Rattle.reply_fold.proofs.records.read_rows.Given as goal

-- the rows so far and those of the records left are those of all
abbrev pub invariant-loop-number : goal.invariant-loop-number
invariant-loop-number l = record {
  reads : IsBlockReader l.reader;
  begun : l.taken.begun < l.number;
  all : left l.schema l.slice l.taken l.number (left_by l.reader) ≡ rows_from l.schema l.slice 0 1 (records_of l.replies);
}
