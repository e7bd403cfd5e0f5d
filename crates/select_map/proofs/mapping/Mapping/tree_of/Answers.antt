use Rattle.select_map.proofs.Selected.{tree_is}
use Rattle.select_map.proofs.mapping.Mapping.tree_of.Goals as goal

pub returns-clause-number : goal.returns-clause-number
returns-clause-number c = λ s lawful is lt. tree_is c.args.self.now c.args.view c.first_holding.result c.ranges.view.fits c.first_holding.ensures s lawful is lt
