use Rattle.std.proofs.Common.{◌+◌, ◌*◌, drop, get_or, sym, ◌∙◌, ap}
use Rattle.delta_agg.specs.declared.digits.Digit.{Digit}
use Rattle.delta_agg.specs.Rows.{room}
use Rattle.std.proofs.lemmas.List.{at_drop_more}
use Rattle.delta_agg.proofs.Numbers.{room-more}
use Rattle.delta_agg.proofs.digits.room_within.Goals as goal

pub loop-digit-preserved : goal.loop-digit-preserved
loop-digit-preserved c =
    let digits = c.args.digits.now in
    let i = c.loop-digit.digit-index in
    let d : Digit = record { attr = 0; top = 0 } in
    ap (λ r. r * room (drop (i + 1) digits)) (c.in-Some.ensures.1 ∙ ap (λ s. c.loop-digit.room * (s + 1)) c.from.ensures)
    ∙ (room-more c.loop-digit.room (get_or digits i d) (drop (i + 1) digits)
    ∙ (ap (λ r. c.loop-digit.room * r) (sym (at_drop_more room digits i d c.loop-digit-test.true)) ∙ c.loop-digit.invariant))
