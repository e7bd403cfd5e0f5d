use Rattle.attr_dict.proofs.Entries.{code-later}
use Rattle.attr_dict.proofs.coding.code_text.Goals as goal

pub returns-in_ok-push_entry-clause-code : goal.returns-in_ok-push_entry-clause-code
returns-in_ok-push_entry-clause-code c = λ later grew. code-later c.args.bytes.now c.admit.new.self later c.in_ok-code.code c.in_ok-code.ensures.code grew

pub returns-else-fresh-clause-code : goal.returns-else-fresh-clause-code
returns-else-fresh-clause-code c = λ later grew. code-later c.args.bytes.now c.admit.new.self later c.in_ok-code.code c.in_ok-code.ensures.code grew
