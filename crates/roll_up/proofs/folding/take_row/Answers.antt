use Rattle.std.proofs.Common.{◌∙◌, ◌++◌, ◌∷◌, [], Bool, List, ap, map, sym}
use Rattle.std.proofs.lemmas.Result.{on_ok_weaker}
use Rattle.fact_model.specs.Value.{Key}
use Rattle.fact_model.specs.declared.slice.Column.{Column}
use Rattle.fact_model.specs.declared.slice.Row.{Row}
use Rattle.row_fold.specs.Lent.{row_in, value_of}
use Rattle.row_fold.specs.Taking.{by_key}
use Rattle.row_fold.proofs.FoldSteps.{taken-in}
use Rattle.roll_up.specs.Lifted.{is_kept, rolled}
use Rattle.roll_up.proofs.folding.take_row.Goals as goal

pub returns : goal.returns
returns c =
    let l = c.args.lifting.now in
    let cs : List Column = l.slice.now.columns in
    let kept : Key → Bool = is_kept l.arity l.levels.now l.slice.now in
    let up : Key → Key = rolled l.arity l.levels.now l.slice.now in
    let columns = c.as_slice.ensures in
    let row : Row = row_in c.args.row.now in
    let values = ap (map value_of) c.as_slice-key.ensures.value in
    let keys = ap (map value_of) c.as_slice-2.ensures.value ∙ (c.in_ok-roll.ensures ∙ ap up values) in
    let numbers = c.as_slice-3.ensures.value in
    on_ok_weaker c.take.result
    (λ more. λ rows so_far. taken-in cs kept up rows row c.args.fold.now c.take.new.self (ap kept (sym values) ∙ (sym c.keeps.ensures ∙ c.if-not-keeps.false))
    (λ qs is. more qs (is ∙ ap (λ ds. by_key ds qs) (sym columns)) ∙ (λ i. by_key (columns i) (qs ++ record { key = keys i; numbers = numbers i } ∷ []))) so_far)
    c.take.ensures.taken
