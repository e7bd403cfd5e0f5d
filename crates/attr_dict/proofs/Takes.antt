-- What is taken in, and taken back.
use Rattle.std.proofs.Common.{◌≡◌, ℕ, List, [], length, get_or, take, ap, ◌∙◌, arith}
use Rattle.std.proofs.lemmas.List.{ext_get_or}
use Rattle.spec_points.specs.Codes.{Text}
use Rattle.attr_dict.specs.Admitting.{Grew}

-- names that are cut down to what they were
pub names-back : (old taken new : List (List Text)) (counts : List ℕ) → length new ≡ length taken → length taken ≡ length old → ((a : ℕ) → get_or counts a 0 ≡ length (get_or old a [])) → ((a : ℕ) → Grew (get_or old a []) (get_or taken a []))
    → ((a : ℕ) → get_or new a [] ≡ take (get_or counts a 0) (get_or taken a [])) → new ≡ old
names-back old taken new counts cut-size size counted grew cut =
    ext_get_or [] new old (omega arith) (λ a lt. cut a ∙ ap (λ n. take n (get_or taken a [])) (counted a) ∙ grew a)
