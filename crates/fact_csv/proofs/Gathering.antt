-- Answers that are taken one after the other.
use Rattle.std.proofs.Common.{◌≡◌, ℕ, ◌+◌, ◌<◌, ◌≤◌, List, [], ◌∷◌, ◌++◌, length, drop, get_or, Result, Ok, Err, refl, sym, ◌∙◌, ap, append_assoc, append-nil, add-one, drop-cons}
use Rattle.std.proofs.lemmas.List.{drop_all}
use Rattle.fact_csv.specs.Gathered.{with_first, gathered}

-- what the answers left give, where these values stand before them
abbrev pub with_front : {A E : Type 0} → List A → Result (List A) E → Result (List A) E
with_front front (Ok xs) = Ok (front ++ xs)
with_front front (Err e) = Err e

-- the values taken, and the answers from this place on, give what all answers give
abbrev pub AreTaken : {A E : Type 0} → List A → ℕ → List (Result A E) → Type 0
AreTaken front i answers = with_front front (gathered (drop i answers)) ≡ gathered answers

module _ {A E : Type 0} (answers : List (Result A E)) where
  one_more : (front : List A) (x : A) (rest : Result (List A) E) → with_front (front ++ x ∷ []) rest ≡ with_front front (with_first x rest)
  one_more front x (Ok xs) = ap Ok (append_assoc front (x ∷ []) xs)
  one_more front x (Err e) = refl

  module _ (i : ℕ) (front : List A) (d : Result A E) (low : i < length answers) (so_far : AreTaken front i answers) where
    next : (answer : Result A E) → get_or answers i d ≡ answer → drop i answers ≡ answer ∷ drop (i + 1) answers
    next answer is = drop-cons answers i d low ∙ ap (λ k. get_or answers i d ∷ drop k answers) (sym (add-one i)) ∙ ap (λ r. r ∷ drop (i + 1) answers) is

    -- a good answer is one value more
    pub goes_on : (x : A) → get_or answers i d ≡ Ok x → AreTaken (front ++ x ∷ []) (i + 1) answers
    goes_on x is = one_more front x (gathered (drop (i + 1) answers)) ∙ sym (ap (λ rs. with_front front (gathered rs)) (next (Ok x) is)) ∙ so_far

    -- the first that is not good is what all give
    pub stops : (e : E) → get_or answers i d ≡ Err e → gathered answers ≡ Err e
    stops e is = sym so_far ∙ ap (λ rs. with_front front (gathered rs)) (next (Err e) is)

  -- behind the last answer the values are all
  pub ends : (i : ℕ) (front : List A) → length answers ≤ i → AreTaken front i answers → gathered answers ≡ Ok front
  ends i front past so_far = sym so_far ∙ ap (λ rs. with_front front (gathered rs)) (drop_all i answers past) ∙ ap Ok (append-nil front)
