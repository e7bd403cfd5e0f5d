use Rattle.std.proofs.Common.{arith}
use Rattle.page_entry.proofs.Pairs.{pair-inside, pair-low, pair-read}
use Rattle.page_entry.proofs.order.last_two.Goals as goal

pub take_u64-both-requires : goal.take_u64-both-requires
take_u64-both-requires c = pair-inside c.args.wide c.args.arity c.args.at c.args.page.now c.requires.narrow c.requires.two c.fits-page (omega (arith, c.told-page, c.requires.place))

pub returns-clause-both : goal.returns-clause-both
returns-clause-both c =
    pair-read c.args.wide c.args.arity c.args.at c.args.page.now c.requires.narrow c.requires.two c.fits-page (omega (arith, c.told-page, c.requires.place))
    c.take_u64-both.result c.take_u64-both.ensures

pub returns-clause-low : goal.returns-clause-low
returns-clause-low c = pair-low c.args.wide c.args.arity c.args.at c.args.page.now c.requires.narrow c.requires.two c.fits-page (omega (arith, c.told-page, c.requires.place))
