use Rattle.std.proofs.Common.{drop, length, reverse, sym, ◌∙◌, ap, arith}
use Rattle.std.proofs.lemmas.List.{length_push}
use Rattle.std.proofs.lemmas.Iterator.Adapters.{YieldsList-from_rev_slice}
use Rattle.std.proofs.lemmas.Iterator.Consumers.{YieldsList-turn}
use Rattle.site_mem.specs.Unstable.{reach}
use Rattle.site_mem.proofs.Backwards.{reach_synced, reach_earlier}
use Rattle.site_mem.proofs.image.reach.Goals as goal

pub returns-then-is_synced-clause-value : goal.returns-then-is_synced-clause-value
returns-then-is_synced-clause-value c =
    let at = YieldsList-turn (YieldsList-from_rev_slice c.args.steps.now cc) c.loop-step.yielded _ c.loop-step.yielded_by _ _ c.in-Some.step c.in-Some.is c.next.ensures.steps in
    let none = reach_synced (reverse c.args.steps.now) (length c.loop-step.yielded) c.in-Some.step.now at c.args.file (sym c.is_synced.ensures ∙ c.if-is_synced.true) in
    let so_far = c.loop-step.invariant.0 in
    omega arith

pub loop-step-preserved : goal.loop-step-preserved
loop-step-preserved c =
    let at = YieldsList-turn (YieldsList-from_rev_slice c.args.steps.now cc) c.loop-step.yielded _ c.loop-step.yielded_by _ _ c.in-Some.step c.in-Some.is c.next.ensures.steps in
    let more = reach_earlier (reverse c.args.steps.now) (length c.loop-step.yielded) c.in-Some.step.now at c.args.file (sym c.is_synced.ensures ∙ c.if-is_synced.false) in
    let pushed = ap (λ n. reach (drop n (reverse c.args.steps.now)) c.args.file) (length_push c.loop-step.yielded c.in-Some.step) in
    let so_far = c.loop-step.invariant.0 in
    (omega arith, omega arith)
