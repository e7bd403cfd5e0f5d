use Rattle.std.proofs.Common.{◌≡◌, ◌-◌, Ok, length, take, drop, ap, sym, ◌∙◌}
use Rattle.slice_lang.specs.Reading.{cond_in, conds_in}
use Rattle.slice_lang.proofs.CondSteps.{one_more}
use Rattle.slice_lang.proofs.conds.read_conds.Goals as goal

pub loop-more-preserved : goal.loop-more-preserved
loop-more-preserved c =
    let s = c.args.schema.now in
    let words = c.loop-more.more.now in
    let next = c.next-item.result in
    let read : cond_in s c.loop-more.conds next ≡ Ok c.in_ok-cond-2.cond = ap (λ cs. cond_in s cs next) (sym c.as_slice-in-len2-up.ensures) ∙ c.in_ok-cond-2.ensures in
    ap (λ cs. conds_in s cs (take (length words - 2) (drop 2 words))) c.in_ok-push-2.ensures.pushed
    ∙ one_more s c.loop-more.conds words c.word-item.result next c.in_ok-cond-2.cond c.in-len2-up.len_at_least c.word-item.is c.next-item.is (sym c.is_word.ensures ∙ c.if-not-is_word.false) read
    ∙ c.loop-more.invariant
