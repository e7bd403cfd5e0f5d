use Rattle.cube_batches.proofs.Names.{◌∙◌, IsDropped, State, subst, sym}
use Rattle.cube_batches.proofs.pending.drop_batch.Goals as goal

pub returns-in-Pending : goal.returns-in-Pending
returns-in-Pending c = subst (λ (s : State). IsDropped s c.set.new.self) (sym (sym c.replace.ensures.value ∙ c.in-Pending.is))
    (c.abandon.result, c.set.ensures, record { stored = c.abandon.ensures.store; forest = c.abandon.ensures.forest; whole = c.abandon.ensures.whole })
