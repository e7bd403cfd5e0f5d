use Rattle.slice_rows.proofs.LentRows.{all-add}
use Rattle.slice_rows.proofs.column_sums.add_up.Goals as goal

pub returns : goal.returns
returns c = all-add c.args.rows.now c.width-column-end.result c.loop-column.column c.width-column-end.ensures c.loop-column-test.false c.loop-column.invariant
