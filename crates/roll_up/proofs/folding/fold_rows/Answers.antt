use Rattle.std.proofs.Common.{ap, length}
use Rattle.cube_schema.specs.Kinds.{arity}
use Rattle.roll_up.proofs.Answered.{rolled-answer}
use Rattle.roll_up.proofs.folding.fold_rows.Goals as goal

pub returns : goal.returns
returns g c =
    rolled-answer c.args.slice.now (g.R.LentRows.rows c.args.rows.now) (arity c.args.schema.now) _ c.args.levels.now _ c.in_ok-fold.fold c.into_rows.result (ap length c.as_slice.ensures) c.as_slice-2.ensures c.in_ok-fold.ensures c.into_rows.ensures
