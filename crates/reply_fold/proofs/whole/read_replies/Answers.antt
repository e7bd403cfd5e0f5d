use Rattle.csv_text.specs.Records.{records_of}
use Rattle.reply_fold.proofs.Wide.{rows-wide}
use Rattle.reply_fold.proofs.whole.read_replies.Goals as goal

pub returns-in_ok-rows-in-Ok-clause-wide : goal.returns-in_ok-rows-in-Ok-clause-wide
returns-in_ok-rows-in-Ok-clause-wide c = rows-wide c.args.schema.now c.in-Ok.slice (records_of c.args.replies.now) c.in_ok-rows-in-Ok.rows c.in_ok-rows-in-Ok.ensures
