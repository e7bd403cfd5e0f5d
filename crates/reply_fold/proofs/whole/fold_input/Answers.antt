use Rattle.reply_fold.proofs.Said.{fold-whole}
use Rattle.reply_fold.proofs.whole.fold_input.Goals as goal

pub returns-clause-whole : goal.returns-clause-whole
returns-clause-whole c schema parts all has are = fold-whole c.args.input.now schema parts all has are c.fold_said.result c.fold_said.ensures
