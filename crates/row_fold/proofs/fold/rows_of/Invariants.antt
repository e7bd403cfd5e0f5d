use Rattle.std.proofs.Common.{◌≡◌, map}
use Rattle.fact_model.specs.Rows.{as_row}
use Rattle.row_fold.specs.Lent.{group_of}
use Rattle.row_fold.proofs.fold.rows_of.Given as goal

-- the rows so far are those of the groups passed
abbrev pub invariant-loop-key : goal.invariant-loop-key
invariant-loop-key l = l.rows ≡ map as_row (map group_of l.yielded)
