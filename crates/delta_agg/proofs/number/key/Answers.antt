use Rattle.std.proofs.Common.{◌+◌, ◌*◌, ◌≤◌, ◌^◌, drop, sym, ◌∙◌, ap, subst}
use Rattle.delta_agg.specs.declared.digits.Digit.{Digit}
use Rattle.delta_agg.specs.Rows.{number_from, room}
use Rattle.delta_agg.proofs.Numbers.{more-fits, more-left, more-whole, all-whole, all-fits}
use Rattle.delta_agg.proofs.number.key.Goals as goal

pub with_digit-number-requires : goal.with_digit-number-requires
with_digit-number-requires g c =
    more-fits c.args.digits.now c.args.coordinates.now c.loop-digit.digit-index (g.K.Number.number c.loop-digit.number) g.K.Number.MOST_PLACES (record { attr = 0; top = 0 })
    c.requires.under c.loop-digit-test.true c.loop-digit.invariant.fits

pub loop-digit-preserved : goal.loop-digit-preserved
loop-digit-preserved g c =
    let digits = c.args.digits.now in
    let coordinates = c.args.coordinates.now in
    let i = c.loop-digit.digit-index in
    let n = g.K.Number.number c.loop-digit.number in
    let most = g.K.Number.MOST_PLACES in
    let d : Digit = record { attr = 0; top = 0 } in
    let whole = more-whole digits coordinates i n most d c.requires.under c.loop-digit-test.true c.loop-digit.invariant.fits in
    let fits = more-left digits coordinates i n most d c.requires.under c.loop-digit-test.true c.loop-digit.invariant.fits in
    record {
      whole = ap (λ x. number_from x (drop (i + 1) digits) coordinates) c.with_digit-number.ensures ∙ (whole ∙ c.loop-digit.invariant.whole);
      fits = subst (λ x. (x + 1) * room (drop (i + 1) digits) ≤ most) (sym c.with_digit-number.ensures) fits;
    }

pub with_row-requires-clause-places : goal.with_row-requires-clause-places
with_row-requires-clause-places g c =
    all-fits c.args.digits.now c.loop-digit.digit-index (g.K.Number.number c.loop-digit.number) g.K.Number.MOST_PLACES c.loop-digit-test.false c.loop-digit.invariant.fits

pub returns : goal.returns
returns g c =
    let n = g.K.Number.number c.loop-digit.number in
    c.with_row.ensures
    ∙ ap (λ x. x * 2 ^ 18 + c.args.row) (sym (all-whole c.args.digits.now c.args.coordinates.now c.loop-digit.digit-index n c.loop-digit-test.false) ∙ c.loop-digit.invariant.whole)
