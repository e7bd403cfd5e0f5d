use Rattle.std.proofs.Common.{refl}
use Rattle.roll_up.proofs.Answered.{lifted-answer}
use Rattle.roll_up.proofs.folding.fold_up.Goals as goal

pub fold_rows-requires-clause-wide : goal.fold_rows-requires-clause-wide
fold_rows-requires-clause-wide g c = λ k d l. (c.requires.form k d l).numbers

pub returns-clause-lifted : goal.returns-clause-lifted
returns-clause-lifted g c =
    let rows = g.R.LentRows.rows c.args.rows.now in
    lifted-answer c.args.schema.now c.args.levels.now c.args.slice.now rows rows c.fold_rows.result c.requires.fit c.requires.agrees refl c.fold_rows.ensures
