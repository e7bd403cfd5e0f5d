-- Bytes that are read up to a line feed.
use Rattle.std.proofs.Common.{◌≡◌, ◌<◌, ℕ, ◌+◌, ◌==◌, suc, Bool, true, false, cond, List, [], ◌∷◌, ◌++◌, length, take, drop, get_or, drop-cons, refl, sym, ◌∙◌, ap, append_assoc, append-nil, arith, add-one}
use Rattle.std.proofs.Math.Bool.{not}
use Rattle.std.proofs.lemmas.Bool.Decides.{nat_tests}
use Rattle.std.proofs.lemmas.List.Sums.{prefix_len_stops}
use Rattle.std.specs.List.{position_or_len}
use Rattle.script_lang.specs.Script.{lines_from}

abbrev pub is_feed : ℕ → Bool
is_feed b = b == 10

abbrev pub to_feed : List ℕ → ℕ
to_feed rest = position_or_len is_feed rest

-- the line goes on up to the line feed
pub line_goes_on : (over : Bool) (rest line more : List ℕ)
    → lines_from over line (rest ++ more)
    ≡ lines_from over (line ++ take (to_feed rest) rest) (drop (to_feed rest) rest ++ more)
line_goes_on over [] line more = ap (λ (l : List ℕ). lines_from over l more) (sym (append-nil line))
line_goes_on over (b ∷ bs) line more =
    let goal : Bool → Type 0 = λ t. cond t (line ∷ lines_from over [] (bs ++ more))
    (lines_from over (line ++ b ∷ []) (bs ++ more))
    ≡ lines_from over (line ++ take (cond (not t) (1 + to_feed bs) 0) (b ∷ bs))
    (drop (cond (not t) (1 + to_feed bs) 0) (b ∷ bs) ++ more) in
    let one : 1 + to_feed bs ≡ suc (to_feed bs) = omega arith in
    elim (is_feed b) as (λ t. is_feed b ≡ t → goal t) [
      | true ↦ λ is. sym
          (ap (λ (t : Bool). cond t ((line ++ []) ∷ lines_from over [] (bs ++ more)) (lines_from over ((line ++ []) ++ b ∷ []) (bs ++ more))) is ∙ ap (λ (l : List ℕ). l ∷ lines_from over [] (bs ++ more)) (append-nil line))
      | false ↦ λ is. line_goes_on over bs (line ++ b ∷ []) more
          ∙ ap (λ (l : List ℕ). lines_from over l (drop (to_feed bs) bs ++ more))
          (append_assoc line (b ∷ []) (take (to_feed bs) bs))
          ∙ ap (λ k. lines_from over (line ++ take k (b ∷ bs)) (drop k (b ∷ bs) ++ more)) (sym one)
    ] refl

-- what stands there is the line feed
pub feed_there : (rest : List ℕ) → to_feed rest < length rest
    → drop (to_feed rest) rest ≡ 10 ∷ drop (to_feed rest + 1) rest
feed_there rest lt =
    let stops : not (is_feed (get_or rest (to_feed rest) 0))
    ≡ false = prefix_len_stops (λ b. not (is_feed b)) rest 0 lt in
    let is : get_or rest (to_feed rest) 0 ≡ 10 = grind (arith, nat_tests, stops) in
    drop-cons rest (to_feed rest) 0 lt ∙ ap (λ b. b ∷ drop (suc (to_feed rest)) rest) is
    ∙ ap (λ k. 10 ∷ drop k rest) (sym (add-one (to_feed rest)))
