use Rattle.fact_model.specs.declared.slice.Cond.{Cond}
use Rattle.std.proofs.Common.{Bool, ◌≤◌, sym, ◌∙◌, ap, subst, filter, map}
use Rattle.std.specs.List.{list_all}
use Rattle.fact_model.specs.Slice.{attr_of}
use Rattle.fact_model.specs.Value.{Key}
use Rattle.row_fold.specs.Lent.{value_of}
use Rattle.roll_up.specs.Bases.{is_on_level}
use Rattle.roll_up.specs.Lifted.{is_met, value_in}
use Rattle.roll_up.proofs.Amongs.{one-fails}
use Rattle.roll_up.proofs.Lifts.{le-true}
use Rattle.roll_up.proofs.lifting.Lifting.keeps.Goals as goal

pub returns-then-not-is_met : goal.returns-then-not-is_met
returns-then-not-is_met c =
    let l = c.args.self.now in
    let key : Key = map value_of c.args.key.now in
    let met : Cond → Bool = λ d. is_met d (value_in l.arity l.levels.now l.slice.now key (attr_of d)) in
    sym (ap (λ cs. list_all met (filter (is_on_level l.arity) cs)) (sym c.as_slice-cond-items.ensures)
    ∙ one-fails (is_on_level l.arity) met c.as_slice-cond-items.result.now c.loop-cond.cond-index c.cond-item.result c.loop-cond-test.true c.cond-item.is
    (le-true l.arity (attr_of c.cond-item.result) (subst (λ a. l.arity ≤ a) c.attr.ensures c.if-attr-self.true))
    (ap (is_met c.cond-item.result) (ap (value_in l.arity l.levels.now l.slice.now key) (sym c.attr-then-attr-self.ensures) ∙ sym c.value.ensures) ∙ (sym c.is_met.ensures ∙ c.if-not-is_met.true)))
