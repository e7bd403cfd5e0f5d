use Rattle.std.proofs.Common.{◌≡◌, ◌+◌, ◌-◌, ◌<◌, true≢false, inl, inr, get_or, refl, sym, ◌∙◌, ap, arith}
use Rattle.std.proofs.lemmas.Bool.{cases_eq}
use Rattle.std.proofs.lemmas.List.{get_or_default}
use Rattle.std.specs.Ordering.{is_lt}
use Rattle.point_groups.specs.Bare.{nowhere}
use Rattle.slice_rows.specs.Grouped.{is_before}
use Rattle.slice_rows.proofs.key_order.do_ascend.Goals as goal

pub loop-i-init : goal.loop-i-init
loop-i-init c = λ k low. absurd (omega (arith, low))

pub loop-i-preserved : goal.loop-i-preserved
loop-i-preserved c = λ k low.
    let es = c.args.points.now in
    elim (cases_eq (k + 1) c.loop-i.i) [
      | inl here ↦
          let back : k ≡ c.loop-i.i - 1 = omega (arith, here) in
          (λ j. is_before c.args.names.now c.args.view.now c.args.group.now (get_or es (back j) nowhere) (get_or es (here j) nowhere))
          ∙ (ap is_lt (sym c.compare_keys.ensures) ∙ (sym c.is_lt.ensures ∙ c.if-not-is_lt.false))
      | inr other ↦ c.loop-i.invariant k (omega (arith, low, other))
    ]

pub returns-then-not-is_lt : goal.returns-then-not-is_lt
returns-then-not-is_lt c =
    let es = c.args.points.now in
    let i = c.loop-i.i in
    let on : i - 1 + 1 ≡ i = omega arith in
    let within : i - 1 + 1 < _ = omega (arith, c.loop-i-test.true, c.len-i-end.ensures) in (
      λ h. absurd (true≢false (sym h)),
      λ up. sym c.if-not-is_lt.true ∙ (c.is_lt.ensures ∙ (ap is_lt c.compare_keys.ensures
          ∙ (ap (λ n. is_before c.args.names.now c.args.view.now c.args.group.now (get_or es (i - 1) nowhere) (get_or es n nowhere)) (sym on) ∙ up (i - 1) nowhere within))),
    )

pub returns : goal.returns
returns c =
    let es = c.args.points.now in (
      λ h k d low.
          (λ j. is_before c.args.names.now c.args.view.now c.args.group.now (get_or_default es k d nowhere (omega (arith, low)) j) (get_or_default es (k + 1) d nowhere low j))
          ∙ c.loop-i.invariant k (omega (arith, low, c.loop-i-test.false, c.len-i-end.ensures)),
      λ h. refl,
    )
