use Rattle.std.proofs.Common.{arith, sym, ◌∙◌}
use Rattle.slice_rows.proofs.CodeRanks.{rank-first, rank-same}
use Rattle.slice_rows.proofs.value_ranks.rank_nth.Goals as goal

pub returns-then-i-eq0 : goal.returns-then-i-eq0
returns-then-i-eq0 c = sym (rank-first c.args.names.now c.args.attr c.args.codes.now c.requires.sorted c.args.i c.requires.within
    (λ some tied. omega (arith, some, c.if-i-eq0.true)) ∙ c.if-i-eq0.true)

pub returns-in-Equal : goal.returns-in-Equal
returns-in-Equal c = c.requires.before (omega (arith, c.if-i-eq0.false))
    ∙ rank-same c.args.names.now c.args.attr c.args.codes.now c.requires.sorted c.args.i (sym c.compare_codes.ensures ∙ c.in-Equal.is)

pub returns-in_default : goal.returns-in_default
returns-in_default c = sym (rank-first c.args.names.now c.args.attr c.args.codes.now c.requires.sorted c.args.i c.requires.within
    (λ some tied. c.in_default.not-Equal (c.compare_codes.ensures ∙ tied)))
