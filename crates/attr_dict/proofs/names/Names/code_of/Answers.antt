use Rattle.std.proofs.Common.{ap, ◌∙◌}
use Rattle.std.specs.Prelude.{position}
use Rattle.std.specs.Str.{bytes_eq}
use Rattle.attr_dict.proofs.Places.{code-at, no-code}
use Rattle.attr_dict.proofs.names.Names.code_of.Goals as goal

pub returns-in-Some : goal.returns-in-Some
returns-in-Some c = code-at c.args.text.now c.args.self.now c.in-Some.index (c.in-Some.ensures.index ∙ ap (position (bytes_eq c.args.text.now)) c.self.view_is)

pub returns-in-None : goal.returns-in-None
returns-in-None c = no-code c.args.text.now c.args.self.now (c.in-None.ensures.index ∙ ap (position (bytes_eq c.args.text.now)) c.self.view_is)
