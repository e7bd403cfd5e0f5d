use Rattle.std.proofs.Common.{arith}
use Rattle.std.proofs.lemmas.Grind.{common_steps}
use Rattle.attr_dict.specs.Book.{kind_at, names_at}
use Rattle.attr_dict.proofs.Backs.{has-value}
use Rattle.attr_dict.proofs.dicts.Dicts.code_of.Goals as goal

pub returns-in-Word-Word-clause-code : goal.returns-in-Word-Word-clause-code
returns-in-Word-Word-clause-code c = grind (arith, common_steps)

pub returns-in-Word-Word-clause-back : goal.returns-in-Word-Word-clause-back
returns-in-Word-Word-clause-back c =
    has-value (kind_at c.args.self.now c.args.attr) (names_at c.args.self.now c.args.attr) c.args.value.now c.code_of.result c.requires.within (returns-in-Word-Word-clause-code c)
