use Rattle.std.proofs.Common.{length, refl}
use Rattle.be_numbers.specs.Numbers.{coded}
use Rattle.byteorder.specs.Endian.{big_bytes}
use Rattle.be_numbers.proofs.Placed.{written_at, kept_at}
use Rattle.be_numbers.proofs.number.put_u64.Goals as goal

pub returns-clause-written : goal.returns-clause-written
unfolding coded
returns-clause-written c = written_at c.args.at 8 (length c.args.bytes.now) c.args.bytes.now (big_bytes 8 c.args.n) _ refl c.requires refl c.write_u64.ensures

pub returns-clause-kept : goal.returns-clause-kept
unfolding coded
returns-clause-kept c = kept_at c.args.at 8 (length c.args.bytes.now) c.args.bytes.now (big_bytes 8 c.args.n) _ refl c.requires refl c.write_u64.ensures
