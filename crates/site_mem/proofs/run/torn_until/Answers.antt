use Rattle.std.proofs.Common.{length, drop, reverse, sym, ◌∙◌, subst, max, ◌≡◌, arith}
use Rattle.std.proofs.lemmas.List.{length_push}
use Rattle.std.proofs.lemmas.Iterator.Adapters.{YieldsList-from_rev_slice}
use Rattle.std.proofs.lemmas.Iterator.Consumers.{YieldsList-turn}
use Rattle.site_mem.proofs.Backwards.{torn_synced}
use Rattle.site_mem.proofs.Tearing.{TornSoFar, torn_on}
use Rattle.site_mem.proofs.run.torn_until.Goals as goal

pub returns-then-is_synced-clause-whole : goal.returns-then-is_synced-clause-whole
returns-then-is_synced-clause-whole c =
    let at = YieldsList-turn (YieldsList-from_rev_slice c.args.steps.now cc) c.loop-step.yielded _ c.loop-step.yielded_by _ _ c.in-Some.step c.in-Some.is c.next.ensures.steps in
    λ high. c.loop-step.invariant.whole high
    ∙ torn_synced (reverse c.args.steps.now) (length c.loop-step.yielded) c.in-Some.step.now at c.args.file c.args.place (sym c.is_synced.ensures ∙ c.if-is_synced.true)

pub loop-step-preserved : goal.loop-step-preserved
loop-step-preserved c =
    let at = YieldsList-turn (YieldsList-from_rev_slice c.args.steps.now cc) c.loop-step.yielded _ c.loop-step.yielded_by _ _ c.in-Some.step c.in-Some.is c.next.ensures.steps in
    let all = reverse c.args.steps.now in
    let is : c.max-end.result ≡ max c.torn_until.result c.loop-step.end = omega (arith, c.max-end.ensures) in
    subst (λ n. TornSoFar all (drop n all) c.args.file c.args.place c.max-end.result) (sym (length_push c.loop-step.yielded c.in-Some.step))
    (torn_on all (length c.loop-step.yielded) c.in-Some.step.now at c.args.file c.args.place (sym c.is_synced.ensures ∙ c.if-is_synced.false)
    c.loop-step.end c.torn_until.result c.max-end.result is c.torn_until.ensures.torn c.torn_until.ensures.whole c.loop-step.invariant)
