use Rattle.std.proofs.Common.{◌<◌, length, arith}
use Rattle.slice_rows.proofs.CodeRanks.{first-rank}
use Rattle.slice_rows.proofs.value_ranks.Ranks.rank.Goals as goal

pub returns-then-place-len : goal.returns-then-place-len
returns-then-place-len c =
    let low : c.args.code < length c.args.self.now.firsts.items = omega arith in
    first-rank c.args.names.now c.args.self.now c.args.code c.index.result.now c.requires.kept low c.index.ensures
