use Rattle.reply_fold.proofs.RepliesAgain.{rows-again}
use Rattle.reply_fold.proofs.laws.printed_rows_read_back.Goals as goal

pub returns : goal.returns
returns c = rows-again
