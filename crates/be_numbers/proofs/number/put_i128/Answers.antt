use Rattle.std.proofs.Common.{length, refl, ap, ◌∙◌, ℤ, ◌++◌, ◌-◌, drop}
use Rattle.std.specs.Int.{w128, cast_unsigned}
use Rattle.std.proofs.lemmas.Int.{to_z-of_z}
use Rattle.byteorder.specs.Endian.{big_bytes}
use Rattle.be_numbers.specs.Numbers.{coded, signed_coded}
use borrow.Rule.Slice.PartMut.{mid_of}
use Rattle.be_numbers.proofs.Placed.{written_at, kept_at}
use Rattle.be_numbers.proofs.number.put_i128.Goals as goal

pub returns-clause-written : goal.returns-clause-written
unfolding coded signed_coded
returns-clause-written c = written_at c.args.at 16 (length c.args.bytes.now) c.args.bytes.now (big_bytes 16 (cast_unsigned w128 c.args.n)) _ refl c.requires refl
    (c.write_i128.ensures ∙ ap (λ (z : ℤ). big_bytes 16 (cast_unsigned w128 z) ++ drop 16 (mid_of c.args.at ((length c.args.bytes.now) - c.args.at) c.args.bytes.now)) (to_z-of_z w128 c.args.n (record { sfits = c.ranges.n.sfits })))

pub returns-clause-kept : goal.returns-clause-kept
unfolding coded signed_coded
returns-clause-kept c = kept_at c.args.at 16 (length c.args.bytes.now) c.args.bytes.now (big_bytes 16 (cast_unsigned w128 c.args.n)) _ refl c.requires refl
    (c.write_i128.ensures ∙ ap (λ (z : ℤ). big_bytes 16 (cast_unsigned w128 z) ++ drop 16 (mid_of c.args.at ((length c.args.bytes.now) - c.args.at) c.args.bytes.now)) (to_z-of_z w128 c.args.n (record { sfits = c.ranges.n.sfits })))
