use Rattle.std.proofs.Common.{◌+◌, ◌&&◌, drop, sym, ◌∙◌, ap}
use Rattle.sql_lang.specs.declared.query.Test.TheVariants.{OneOf}
use Rattle.sql_slice.specs.Lists.{lists_have}
use Rattle.sql_slice.specs.RowFold.{key_passes}
use Rattle.sql_slice.proofs.ListSteps.{no-list, test-passed, test-taken}
use Rattle.sql_slice.proofs.lists.lists_of.Goals.{in-OneOf+in_ok-values_of+in_ok-push, in_default}
use Rattle.sql_slice.proofs.lists.lists_of.Goals as goal

pub loop-test-preserved : goal.loop-test-preserved
loop-test-preserved c = λ group key.
    (let tests = c.args.tests.now in
    let i = c.loop-test.test-index in
    let x = c.test-item.result in
    let old = c.loop-test.lists.items in
    elim c.match-test.branch [
      | in-OneOf+in_ok-values_of+in_ok-push w ↦
          test-taken group key tests i x c.loop-test-test.true c.test-item.is old c.match-test.lists.items w.in_ok-values_of.field-0 w.in-OneOf.attr w.as_slice.result.now
          (w.in-OneOf.is ∙ ap (OneOf w.in-OneOf.attr) (sym w.as_slice.ensures)) (cc (w.lists-is, w.in_ok-push.ensures.items)) w.in_ok-values_of.ensures.attr w.in_ok-values_of.ensures.values
          (c.loop-test.invariant group key)
      | in_default w ↦
          (λ k. lists_have group (w.lists-is k).items key && key_passes group (drop (i + 1) tests) key)
          ∙ test-passed group key tests i x c.loop-test-test.true c.test-item.is old (no-list x w.in_default.not-OneOf) (c.loop-test.invariant group key)
    ])
