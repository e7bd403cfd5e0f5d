-- Answers that are all good, or the first that is not.
use Rattle.std.specs.Prelude.{List, [], ◌∷◌, Result, Ok, Err}

abbrev pub with_first : {A E : Type 0} → A → Result (List A) E → Result (List A) E
with_first x (Ok xs) = Ok (x ∷ xs)
with_first x (Err e) = Err e

-- all values in order, or the first error
abbrev pub gathered : {A E : Type 0} → List (Result A E) → Result (List A) E
gathered [] = Ok []
gathered (Ok x ∷ answers) = with_first x (gathered answers)
gathered (Err e ∷ answers) = Err e
