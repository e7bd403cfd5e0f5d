use Rattle.std.proofs.Common.{◌≡◌, ℕ, ◌+◌, ◌-◌, false, List, ◌∷◌, cond, length, drop, get_or, ap, sym, ◌∙◌, arith}
use Rattle.std.specs.Prelude.{codes, nat_eq}
use Rattle.std.specs.List.{starts_with}
use Rattle.std.proofs.lemmas.List.{at_drop_more, take_all, length-drop}
use Rattle.reply_fold.specs.Input.{place_of_end}
use Rattle.reply_fold.proofs.input.place_of_end.Goals as goal

pub loop-at-preserved : goal.loop-at-preserved
loop-at-preserved c =
    let i = c.loop-at.at in
    let text = c.args.input.now in
    let begins = λ (t : List ℕ). starts_with nat_eq t (codes "\nend\n") in
    let whole = take_all (length text - i) (drop i text) (omega (arith, length-drop i text)) in
    let test : begins (get_or text i 0 ∷ drop (i + 1) text) ≡ false =
    sym (at_drop_more begins text i 0 c.loop-at-test.true) ∙ sym (ap begins whole) ∙ sym c.starts_with.ensures.value ∙ c.if-starts_with.false in
    let next : place_of_end (drop i text) ≡ 1 + place_of_end (drop (i + 1) text) =
    at_drop_more place_of_end text i 0 c.loop-at-test.true ∙ ap (λ b. cond b 0 (1 + place_of_end (drop (i + 1) text))) test in
    omega (arith, c.loop-at.invariant)
