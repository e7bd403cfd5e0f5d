use Rattle.std.proofs.Common.{length, refl, ap, ◌∙◌}
use Rattle.be_numbers.specs.Numbers.{number}
use Rattle.byteorder.specs.Endian.{big_number}
use Rattle.be_numbers.proofs.Placed.{part_at}
use Rattle.be_numbers.proofs.number.take_u16.Goals as goal

pub returns : goal.returns
unfolding number
returns c = c.read_u16.ensures ∙ ap (big_number 2) (part_at c.args.at (length c.args.bytes.now) c.args.bytes.now refl)
