use Rattle.row_fold.proofs.FoldLaws.{rows-fold}
use Rattle.row_fold.proofs.laws.rows_of_facts_fold.Goals as goal

pub returns : goal.returns
returns c = rows-fold
