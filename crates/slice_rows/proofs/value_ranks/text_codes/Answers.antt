use Rattle.std.proofs.Common.{arith, subst}
use Rattle.point_groups.specs.Bare.{nowhere}
use Rattle.slice_rows.specs.Ranks.{IsKnown}
use Rattle.slice_rows.proofs.CodeRanks.{known-more}
use Rattle.slice_rows.proofs.value_ranks.text_codes.Goals as goal

pub loop-number-init : goal.loop-number-init
loop-number-init c = λ k d low. absurd (omega (arith, low))

pub loop-number-preserved : goal.loop-number-preserved
loop-number-preserved c = known-more c.args.names.now c.args.attr c.args.view.now c.args.points.now c.loop-number.number nowhere c.loop-number.codes.keys c.note_code.new.codes.keys
    (omega (arith, c.loop-number-test.true, c.len-number-end.ensures)) c.in_ok-note_code.ensures.kept
    (subst (IsKnown c.args.names.now c.args.attr c.note_code.new.codes.keys) c.coordinate.ensures c.in_ok-note_code.ensures.known)
    c.loop-number.invariant

pub returns : goal.returns
returns c = λ k d low. c.loop-number.invariant k d (omega (arith, low, c.loop-number-test.false, c.len-number-end.ensures))
