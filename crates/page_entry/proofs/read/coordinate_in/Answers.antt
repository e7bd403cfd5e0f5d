use Rattle.std.proofs.Common.{length, drop, sym, arith}
use Rattle.page_entry.proofs.Coordinates.{unused-at}
use Rattle.page_entry.proofs.Widths.{coordinate-inside}
use Rattle.page_entry.proofs.read.coordinate_in.Goals as goal

pub coordinate_at-requires : goal.coordinate_at-requires
coordinate_at-requires c = coordinate-inside c.args.wide c.args.dimension c.args.arity c.args.at (length c.args.bytes.now) c.if-dimension-arity.true c.requires.place

pub returns-then-dimension-arity : goal.returns-then-dimension-arity
returns-then-dimension-arity c = c.coordinate_at.ensures c.args.arity c.if-dimension-arity.true

pub returns : goal.returns
returns c = sym (unused-at c.args.wide c.args.arity c.args.dimension (drop c.args.at c.args.bytes.now) (omega (arith, c.if-dimension-arity.false)))
