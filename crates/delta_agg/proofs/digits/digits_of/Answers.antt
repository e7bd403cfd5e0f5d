use Rattle.std.proofs.Common.{◌≡◌, ◌+◌, ◌-◌, ◌<◌, ◌++◌, ◌∷◌, [], ℕ, List, get_or, length, map, reverse, take, sym, ◌∙◌, ap, arith}
use Rattle.std.proofs.lemmas.List.{get_or-reverse, length-reverse, map-append, take_more}
use Rattle.delta_agg.specs.declared.digits.Digit.{Digit}
use Rattle.delta_agg.specs.Rows.{digit_of}
use Rattle.delta_agg.proofs.digits.digits_of.Goals as goal

-- one attribute more, from the last down
digits-more : (view tops : List ℕ) (k : ℕ) → k < length view
    → map (digit_of tops) (take (k + 1) (reverse view)) ≡ map (digit_of tops) (take k (reverse view)) ++ digit_of tops (get_or view (length view - 1 - k) 0) ∷ []
digits-more view tops k low =
    ap (map (digit_of tops)) (take_more (reverse view) k 0 (omega (arith, low, length-reverse view)))
    ∙ (map-append (digit_of tops) (take k (reverse view)) (get_or (reverse view) k 0 ∷ [])
    ∙ ap (λ a. map (digit_of tops) (take k (reverse view)) ++ digit_of tops a ∷ []) (get_or-reverse view k 0 low))

pub loop-skipped-preserved : goal.loop-skipped-preserved
loop-skipped-preserved c =
    let view = c.args.view.now in
    let k = c.loop-skipped.skipped in
    let attr : ℕ = get_or view (length view - 1 - k) 0 in
    c.in_ok-push.ensures.items
    ∙ (ap (λ (digits : List Digit). digits ++ digit_of c.args.tops.now attr ∷ []) c.loop-skipped.invariant
    ∙ sym (digits-more view c.args.tops.now k c.loop-skipped-test.true))
