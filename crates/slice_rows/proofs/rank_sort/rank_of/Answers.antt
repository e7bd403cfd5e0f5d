use Rattle.std.proofs.Common.{get_or, ◌*◌, ◌+◌, ◌<◌, ◌^◌, ℕ, arith, sym, ◌∙◌, ap, subst}
use Rattle.point_groups.specs.Bare.{nowhere}
use Rattle.slice_rows.specs.Ranks.{KeepsRanks, rank_by}
use Rattle.slice_rows.proofs.RankKeys.{IsBegun, begun-more}
use Rattle.slice_rows.proofs.rank_sort.rank_of.Goals as goal

-- there is room for the digit
more : (c : goal.After-rank-digit) → (c.loop-table.rank * c.table-item.result.count + c.rank-digit.result < 2 ^ 64)
    × IsBegun c.args.names.now c.args.view.now (get_or c.args.points.now c.args.number nowhere) c.args.ranks.now (c.loop-table.table-index + 1) (c.loop-table.rank * c.table-item.result.count + c.rank-digit.result)
more c =
    let b = c.args.names.now in
    let table = c.table-item.result in
    begun-more b c.args.view.now (get_or c.args.points.now c.args.number nowhere) c.args.ranks.now c.loop-table.table-index c.loop-table.rank c.rank-digit.result table c.loop-table-test.true c.table-item.is
    (c.rank-digit.ensures ∙ ap (λ (code : ℕ). rank_by b table code) c.coordinate.ensures) c.requires.below c.loop-table.invariant

pub rank-digit-requires-clause-kept : goal.rank-digit-requires-clause-kept
rank-digit-requires-clause-kept c =
    let kept = c.requires.kept c.loop-table.table-index c.table-item.result c.loop-table-test.true in
    subst (KeepsRanks c.args.names.now) (sym c.table-item.is) kept

pub overflow_mul-rank : goal.overflow_mul-rank
overflow_mul-rank c = let fits = (more c).0 in omega (arith, fits)

pub overflow_add-rank : goal.overflow_add-rank
overflow_add-rank c = let fits = (more c).0 in omega (arith, fits)

pub loop-table-preserved : goal.loop-table-preserved
loop-table-preserved c = (more c).1
