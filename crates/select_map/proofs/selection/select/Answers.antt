use Rattle.select_map.proofs.Selected.{schema_selection}
use Rattle.select_map.proofs.selection.select.Goals as goal

pub returns-clause-lawful : goal.returns-clause-lawful
returns-clause-lawful c = schema_selection c.args.schema.now c.trees_of.result c.requires c.trees_of.ensures
