use Rattle.std.proofs.Common.{length, drop, reverse, sym, ◌∙◌, subst, arith}
use Rattle.std.proofs.lemmas.List.{length_push}
use Rattle.std.proofs.lemmas.Iterator.Adapters.{YieldsList-from_rev_slice}
use Rattle.std.proofs.lemmas.Iterator.Consumers.{YieldsList-turn}
use Rattle.site_mem.proofs.Backwards.{torn_synced}
use Rattle.site_mem.proofs.Tearing.{WholeSoFar, whole_on}
use Rattle.site_mem.proofs.run.whole_until.Goals as goal

pub returns-then-is_synced-clause-whole : goal.returns-then-is_synced-clause-whole
returns-then-is_synced-clause-whole c =
    let at = YieldsList-turn (YieldsList-from_rev_slice c.args.steps.now cc) c.loop-step.yielded _ c.loop-step.yielded_by _ _ c.in-Some.step c.in-Some.is c.next.ensures.steps in
    λ i from low. c.loop-step.invariant.so_far.whole i from low
    ∙ torn_synced (reverse c.args.steps.now) (length c.loop-step.yielded) c.in-Some.step.now at c.args.file i (sym c.is_synced.ensures ∙ c.if-is_synced.true)

pub loop-step-preserved : goal.loop-step-preserved
loop-step-preserved c =
    let at = YieldsList-turn (YieldsList-from_rev_slice c.args.steps.now cc) c.loop-step.yielded _ c.loop-step.yielded_by _ _ c.in-Some.step c.in-Some.is c.next.ensures.steps in
    let all = reverse c.args.steps.now in
    record {
      some = c.whole_until-end.ensures.some c.loop-step.invariant.some;
      within = omega (arith, c.whole_until-end.ensures.within, c.loop-step.invariant.within);
      so_far = subst (λ n. WholeSoFar all (drop n all) c.args.file c.args.place c.whole_until-end.result) (sym (length_push c.loop-step.yielded c.in-Some.step))
          (whole_on all (length c.loop-step.yielded) c.in-Some.step.now at c.args.file c.args.place (sym c.is_synced.ensures ∙ c.if-is_synced.false)
          c.loop-step.end c.whole_until-end.result c.whole_until-end.ensures.within c.whole_until-end.ensures.whole c.loop-step.invariant.so_far);
    }
