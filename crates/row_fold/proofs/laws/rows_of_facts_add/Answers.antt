use Rattle.row_fold.proofs.Adding.{rows-add}
use Rattle.row_fold.proofs.laws.rows_of_facts_add.Goals as goal

pub returns : goal.returns
returns c = rows-add
