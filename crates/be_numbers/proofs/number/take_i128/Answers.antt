use Rattle.std.proofs.Common.{length, refl, ap, ◌∙◌, List, ℕ}
use Rattle.std.specs.Int.{w128, cast_signed}
use Rattle.std.proofs.lemmas.Int.{to_z-of_z}
use Rattle.byteorder.specs.Endian.{big_number}
use Rattle.be_numbers.specs.Numbers.{number, signed}
use Rattle.be_numbers.proofs.Placed.{part_at}
use Rattle.be_numbers.proofs.number.take_i128.Goals as goal

pub returns : goal.returns
unfolding number signed
returns c = to_z-of_z w128 c.read_i128.result (record { sfits = c.read_i128.type_inv }) ∙ (c.read_i128.ensures ∙ ap (λ (l : List ℕ). cast_signed w128 (big_number 16 l)) (part_at c.args.at (length c.args.bytes.now) c.args.bytes.now refl))
