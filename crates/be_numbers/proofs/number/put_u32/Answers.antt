use Rattle.std.proofs.Common.{length, refl}
use Rattle.be_numbers.specs.Numbers.{coded}
use Rattle.byteorder.specs.Endian.{big_bytes}
use Rattle.be_numbers.proofs.Placed.{written_at, kept_at}
use Rattle.be_numbers.proofs.number.put_u32.Goals as goal

pub returns-clause-written : goal.returns-clause-written
unfolding coded
returns-clause-written c = written_at c.args.at 4 (length c.args.bytes.now) c.args.bytes.now (big_bytes 4 c.args.n) _ refl c.requires refl c.write_u32.ensures

pub returns-clause-kept : goal.returns-clause-kept
unfolding coded
returns-clause-kept c = kept_at c.args.at 4 (length c.args.bytes.now) c.args.bytes.now (big_bytes 4 c.args.n) _ refl c.requires refl c.write_u32.ensures
