use Rattle.std.proofs.Common.{◌∙◌, Some, ap, refl, sym}
use Rattle.page_cache.proofs.InSlots.{absent-from, given-put, there-put}
use Rattle.page_cache.proofs.cache.put_in.Goals.{then-len-get+in_ok-new, else-len-get}
use Rattle.page_cache.proofs.cache.put_in.Goals as goal

pub returns-in-Ok-None-clause-given : goal.returns-in-Ok-None-clause-given
returns-in-Ok-None-clause-given c =
    given-put c.args.name c.args.slots.now
    (absent-from c.args.name c.args.slots.now c.len.ensures.valid.1 c.requires.absent) c.new-kept.result _ c.in-Ok-None.ensures.entries refl

pub returns-in-Ok-Some-clause-given : goal.returns-in-Ok-Some-clause-given
returns-in-Ok-Some-clause-given c =
    given-put c.args.name c.args.slots.now
    (absent-from c.args.name c.args.slots.now c.len.ensures.valid.1 c.requires.absent) c.new-kept.result _ c.in-Ok-Some.ensures.entries refl

pub returns-in-Ok-None-clause-put : goal.returns-in-Ok-None-clause-put
returns-in-Ok-None-clause-put c = (
  c.new-kept.result,
  there-put c.args.name c.args.slots.now c.new-kept.result c.push.new.self c.in-Ok-None.ensures.entries,
  sym c.in-Some.ensures.value ∙ ap Some (sym c.new-kept.ensures),
)

pub returns-in-Ok-Some-clause-put : goal.returns-in-Ok-Some-clause-put
returns-in-Ok-Some-clause-put c = (
  c.new-kept.result,
  there-put c.args.name c.args.slots.now c.new-kept.result c.push.new.self c.in-Ok-Some.ensures.entries,
  sym c.in-Some.ensures.value ∙ ap Some (sym c.new-kept.ensures),
)
