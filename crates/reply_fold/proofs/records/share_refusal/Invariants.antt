use Rattle.std.proofs.Common.{◌≡◌}
use Rattle.csv_text.specs.Reader.{IsBlockReader, left_by}
use Rattle.csv_text.specs.Records.{records_of}
use Rattle.reply_fold.specs.Replies.{refused_from}
use Rattle.reply_fold.proofs.records.share_refusal.Given as goal

-- what the records left give is what all give
abbrev pub invariant-loop-number : goal.invariant-loop-number
invariant-loop-number l = record {
  reads : IsBlockReader l.reader;
  left : refused_from l.text l.number (left_by l.reader) ≡ refused_from l.text 1 (records_of l.replies);
}
