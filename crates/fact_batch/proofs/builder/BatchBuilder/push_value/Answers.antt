use Rattle.std.proofs.Common.{◌++◌, ◌∷◌, List, [], sym, ap, ◌∙◌, arith, subst}
use Rattle.std.proofs.lemmas.List.{append-nil}
use Rattle.fact_batch.specs.declared.values.Slot.{Slot}
use Rattle.fact_batch.specs.declared.values.Slot.TheVariants as slot
use Rattle.fact_model.specs.declared.fact.Value.TheVariants.{Number}
use Rattle.fact_batch.specs.Batch.{Draft, IsDraft, draft_of}
use Rattle.fact_batch.proofs.Pushes.{draft-value, push-draft}
use Rattle.fact_batch.proofs.builder.BatchBuilder.push_value.Goals as goal

pub invariant_of-self-2 : goal.invariant_of-self-2
invariant_of-self-2 c =
    let b = c.self.inside in
    subst (λ (slots : List Slot). IsDraft b.width b.measures b.rows slots b.texts.items b.numbers.items) (sym c.in_ok-push.ensures.items)
    (subst (λ texts. IsDraft b.width b.measures b.rows (b.slots.items ++ slot.Number c.args.number ∷ []) texts b.numbers.items) (append-nil b.texts.items)
    (push-draft b.width b.measures b.rows b.slots.items b.texts.items b.numbers.items (slot.Number c.args.number) [] (omega arith) c.self.invariant))

pub returns : goal.returns
returns c =
    let b = c.self.inside in
    ap (λ (slots : List Slot). draft_of b.width b.measures b.rows slots b.texts.items b.numbers.items) c.in_ok-push.ensures.items
    ∙ (ap (λ texts. draft_of b.width b.measures b.rows (b.slots.items ++ slot.Number c.args.number ∷ []) texts b.numbers.items) (sym (append-nil b.texts.items))
    ∙ (draft-value b.width b.measures b.rows b.slots.items b.texts.items b.numbers.items (slot.Number c.args.number) [] c.self.invariant
    ∙ ap (λ (d : Draft). record d { values = d.values ++ Number c.args.number ∷ [] }) c.self.view_is))
