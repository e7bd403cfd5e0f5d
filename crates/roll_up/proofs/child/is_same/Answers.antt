use Rattle.std.proofs.Common.{◌∙◌, sym}
use Rattle.std.specs.Cmp.Lexicographic.{texts_ties}
use Rattle.fact_model.specs.Value.{same_value}
use Rattle.row_fold.specs.Lent.{value_of}
use Rattle.roll_up.proofs.child.is_same.Goals as goal

pub returns-in-Word-right : goal.returns-in-Word-right
returns-in-Word-right c =
    c.eq.ensures ∙ (texts_ties c.in-Word.text.now c.in-Word-right.other.now ∙ (λ i. same_value (value_of (sym c.in-Word.is i)) (value_of (sym c.in-Word-right.is i))))
