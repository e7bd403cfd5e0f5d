use Rattle.std.proofs.Common.{◌++◌, ◌∷◌, List, [], length, sym, ap, ◌∙◌, arith, subst}
use Rattle.fact_model.specs.declared.fact.Value.TheVariants.{Word}
use Rattle.fact_batch.specs.declared.values.Slot.{Slot}
use Rattle.fact_batch.specs.declared.values.Slot.TheVariants as slot
use Rattle.fact_batch.specs.Batch.{Draft, IsDraft, draft_of}
use Rattle.fact_batch.proofs.Pushes.{draft-text, push-draft}
use Rattle.fact_batch.proofs.builder.BatchBuilder.push_text.Goals as goal

pub invariant_of-self-in-Ok : goal.invariant_of-self-in-Ok
invariant_of-self-in-Ok c =
    let b = c.self.inside in
    subst (λ (slots : List Slot). IsDraft b.width b.measures b.rows slots c.extend_from_slice.new.self.items b.numbers.items) (sym c.in-Ok.ensures.items)
    (subst (λ texts. IsDraft b.width b.measures b.rows (b.slots.items ++ slot.Word (length c.args.bytes.now) ∷ []) texts b.numbers.items) (sym c.in_ok-extend_from_slice.ensures.items)
    (push-draft b.width b.measures b.rows b.slots.items b.texts.items b.numbers.items (slot.Word (length c.args.bytes.now)) c.args.bytes.now (omega arith) c.self.invariant))

pub returns-in-Ok : goal.returns-in-Ok
returns-in-Ok c =
    let b = c.self.inside in
    (λ j. draft_of b.width b.measures b.rows (c.in-Ok.ensures.items j) (c.in_ok-extend_from_slice.ensures.items j) b.numbers.items)
    ∙ (draft-text b.width b.measures b.rows b.slots.items b.texts.items b.numbers.items c.args.bytes.now c.self.invariant
    ∙ ap (λ (d : Draft). record d { values = d.values ++ Word c.args.bytes.now ∷ [] }) c.self.view_is)
