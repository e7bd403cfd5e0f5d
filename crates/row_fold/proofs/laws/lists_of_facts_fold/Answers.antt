use Rattle.row_fold.proofs.FoldLaws.{lists-fold}
use Rattle.row_fold.proofs.laws.lists_of_facts_fold.Goals as goal

pub returns : goal.returns
returns c = lists-fold
