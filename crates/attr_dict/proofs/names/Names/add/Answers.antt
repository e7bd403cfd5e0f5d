use Rattle.std.proofs.Common.{◌∙◌}
use Rattle.attr_dict.proofs.Places.{added-names, added-code}
use Rattle.attr_dict.proofs.names.Names.add.Goals as goal

pub returns : goal.returns
returns c =
    let t = c.args.text.now in
    let copied = c.in_ok-name.ensures in
    let names = added-names t c.in_ok-name.name c.args.self.now c.self.inside.set.keys c.insert_full.new.self.keys copied c.self.view_is c.requires c.in_ok-index.ensures.keys in
    record { names = names; code = added-code t c.in_ok-name.name c.args.self.now c.self.inside.set.keys c.insert_full.new.self.keys c.in_ok-index.index copied c.self.view_is c.requires names c.in_ok-index.ensures.index; unchanged = tt }
