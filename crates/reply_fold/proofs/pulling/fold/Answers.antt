use Rattle.reply_fold.proofs.Faults.{with-cause}
use Rattle.reply_fold.proofs.pulling.fold.Goals as goal

pub returns-clause-input : goal.returns-clause-input
returns-clause-input g c = with-cause _ (g.S.Source.faults c.args.source.now) (g.S.Source.faults c.read_all.new.source) c.fold_input.result c.fold_input.ensures.exact c.in_ok-input.ensures.input.ok
