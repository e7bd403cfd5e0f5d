use Rattle.std.proofs.Common.{◌∙◌}
use Rattle.attr_dict.proofs.Places.{behind-code, front-code, no-front_code}
use Rattle.attr_dict.proofs.names.Names.code_within.Goals as goal

pub returns-in_err-code : goal.returns-in_err-code
returns-in_err-code c = c.from_residual.ensures ∙ no-front_code c.args.text.now c.args.len c.args.self.now c.in_err-code.ensures

pub returns-then-code-len : goal.returns-then-code-len
returns-then-code-len c = behind-code c.args.text.now c.args.len c.args.self.now c.in_ok-code.code c.in_ok-code.ensures c.if-code-len.true

pub returns : goal.returns
returns c = front-code c.args.text.now c.args.len c.args.self.now c.in_ok-code.code c.in_ok-code.ensures c.if-code-len.false
