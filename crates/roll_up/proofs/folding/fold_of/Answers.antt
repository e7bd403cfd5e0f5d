use Rattle.std.proofs.Common.{◌≡◌, ◌<◌, ◌+◌, ◌++◌, ◌∷◌, ◌∙◌, [], List, ap, arith, length, sym, take}
use Rattle.std.proofs.lemmas.List.{take_more}
use Rattle.fact_model.specs.declared.slice.Row.{Row}
use Rattle.row_fold.specs.Lent.{row_in}
use Rattle.row_fold.proofs.FoldSteps.{next-room}
use Rattle.roll_up.specs.Lifted.{groups_of, is_kept, rolled}
use Rattle.roll_up.proofs.folding.fold_of.Goals as goal

pub take_row-requires-clause-room : goal.take_row-requires-clause-room
take_row-requires-clause-room g c =
    let l = c.args.lifting in
    let rows : List Row = g.R.LentRows.rows c.args.rows.now in
    let i = c.loop-place.place in
    let low : i < length rows = omega (arith, c.loop-place-test.true, c.count-place-end.ensures) in
    let r : Row = row_in c.lend.new.row in
    next-room l.slice.now.columns (is_kept l.arity l.levels.now l.slice.now) (rolled l.arity l.levels.now l.slice.now) rows i r r c.loop-place.fold
    c.requires.adds c.requires.wide low (c.in_ok-lend.ensures r) c.loop-place.invariant

pub loop-place-preserved : goal.loop-place-preserved
loop-place-preserved g c =
    let l = c.args.lifting in
    let rows : List Row = g.R.LentRows.rows c.args.rows.now in
    let i = c.loop-place.place in
    let low : i < length rows = omega (arith, c.loop-place-test.true, c.count-place-end.ensures) in
    let r : Row = row_in c.lend.new.row in
    let next : take (i + 1) rows ≡ take i rows ++ r ∷ [] = take_more rows i r low ∙ ap (λ e. take i rows ++ e ∷ []) (sym (c.in_ok-lend.ensures r)) in
    c.in_ok-take_row.ensures (take i rows) c.loop-place.invariant ∙ ap (groups_of l.arity l.levels.now l.slice.now) (sym next)
