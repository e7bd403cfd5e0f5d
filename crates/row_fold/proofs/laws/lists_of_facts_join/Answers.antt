use Rattle.row_fold.proofs.FoldLaws.{lists-join}
use Rattle.row_fold.proofs.laws.lists_of_facts_join.Goals as goal

pub returns : goal.returns
returns c = lists-join
