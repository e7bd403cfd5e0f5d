-- The answer of reading: a value, or the first rule that is broken.
use Rattle.std.specs.Prelude.{◌≡◌, ◌≢◌, Bool, List, [], ◌∷◌, if◌then◌else◌, Option, Some, None, Result, Ok, Err}
use Rattle.sql_lang.specs.declared.refusal.SqlRefusal.{SqlRefusal}
use Rattle.sql_lang.specs.declared.refusal.SqlRefusal.TheVariants as refused

abbrev pub Reading : Type 0 → Type 0
Reading A = Result A SqlRefusal

-- the next step with the value, if there is one
infixl 10 ◌>>=◌
abbrev pub ◌>>=◌ : {A B : Type 0} → Reading A → (A → Reading B) → Reading B
(Ok x) >>= next = next x
(Err refusal) >>= next = Err refusal

-- the value if every rule holds, otherwise the first rule that is broken
abbrev pub judged : {A : Type 0} → A → List (Bool × SqlRefusal) → Reading A
judged x [] = Ok x
judged x (rule ∷ rules) = if rule.0 then judged x rules else Err rule.1

-- the value if there is one, otherwise the refusal
abbrev pub or_refused : {A : Type 0} → SqlRefusal → Option A → Reading A
or_refused refusal None = Err refusal
or_refused refusal (Some x) = Ok x

-- the answer is this one, unless memory was short
abbrev pub Answers : {A : Type 0} → Reading A → Reading A → Type 0
Answers (Ok x) want = want ≡ Ok x
Answers (Err refusal) want = refusal ≢ refused.Memory → want ≡ Err refusal
