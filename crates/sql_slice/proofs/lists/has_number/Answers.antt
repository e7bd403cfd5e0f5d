use Rattle.std.proofs.Common.{◌∙◌, ap}
use Rattle.std.proofs.Math.Facts.{to_z-of_z}
use Rattle.sql_slice.specs.Lists.{has_number}
use Rattle.sql_slice.proofs.lists.has_number.Goals as goal

pub returns : goal.returns
returns c = c.contains.ensures ∙ ap (has_number c.args.numbers.now) (to_z-of_z c.ranges.number)
