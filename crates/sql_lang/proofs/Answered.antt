-- What follows from a reading that is a value.
use Rattle.std.proofs.Common.{◌≡◌, Bool, true, false, List, [], ◌∷◌, Option, Some, None, Ok, Err, refl, subst}
use Rattle.std.specs.Prelude.{if◌then◌else◌}
use Rattle.std.specs.List.{AllByRecursion}
use Rattle.sql_lang.specs.declared.draft.Draft.{Draft}
use Rattle.sql_lang.specs.declared.draft.Due.{Due}
use Rattle.sql_lang.specs.declared.draft.Reader.{Reader}
use Rattle.sql_lang.specs.declared.refusal.SqlRefusal.{SqlRefusal}
use Rattle.sql_lang.specs.declared.token.Token.{Token}
use Rattle.sql_lang.specs.Answers.{Reading, ◌>>=◌, judged, or_refused}
use Rattle.sql_lang.specs.Reading.{along, along_or, goes, misfit}

-- each rule holds
abbrev pub Hold : List (Bool × SqlRefusal) → Type 0
Hold [] = Unit {0}
Hold (rule ∷ rules) = (rule.0 ≡ true) × Hold rules

pub some-chosen : {A : Type 0} (b : Bool) (x y : A) → (if b then Some x else None) ≡ Some y → (b ≡ true) × (x ≡ y)
some-chosen true x y e = (refl, cc)
some-chosen false x y e = cc

module _ {A : Type 0} where
  pub judged-ok : (x y : A) (rules : List (Bool × SqlRefusal)) → judged x rules ≡ Ok y → (x ≡ y) × Hold rules
  judged-ok x y [] e = (cc, tt)
  judged-ok x y (rule ∷ rules) e =
      elim rule.0 as (λ b. (if b then judged x rules else Err rule.1) ≡ Ok y → (x ≡ y) × ((b ≡ true) × Hold rules)) [
        | true ↦ λ f. (let rest = judged-ok x y rules f in (rest.0, (refl, rest.1)))
        | false ↦ λ f. cc
      ] e

  pub bound-ok : {B : Type 0} (r : Reading A) (next : A → Reading B) (y : B) → (r >>= next) ≡ Ok y → (x : A) × (r ≡ Ok x) × (next x ≡ Ok y)
  bound-ok (Ok x) next y e = (x, refl, e)
  bound-ok (Err refusal) next y e = cc

  pub chosen-ok : (b : Bool) (r : Reading A) (refusal : SqlRefusal) (y : A) → (if b then r else Err refusal) ≡ Ok y → (b ≡ true) × (r ≡ Ok y)
  chosen-ok true r refusal y e = (refl, e)
  chosen-ok false r refusal y e = cc

  pub some-ok : (refusal : SqlRefusal) (found : Option A) (y : A) → or_refused refusal found ≡ Ok y → found ≡ Some y
  some-ok refusal None y e = cc
  some-ok refusal (Some x) y e = cc

-- a value that is made behind a reading
pub made : {A : Type 0} (P : Reader → Type 0) (r : Reading A) (next : A → Reader) (y : Reader) → ((x : A) → r ≡ Ok x → P (next x)) → (r >>= (λ x. Ok (next x))) ≡ Ok y → P y
made P r next y h e = let found = bound-ok r (λ x. Ok (next x)) y e in let same : next found.0 ≡ y = cc (found.2) in subst P same (h found.0 found.1)

-- what follows of each way whose test holds, and of what else there is, holds behind the token
pub along_or-gives : (P : Reader → Type 0) (d : Draft) (ways : List (Bool × Due)) (other : Reading Reader) (r : Reader)
    → AllByRecursion (λ (way : Bool × Due). way.0 ≡ true → P (goes d way.1)) ways → (other ≡ Ok r → P r) → along_or d ways other ≡ Ok r → P r
along_or-gives P d [] other r h f e = f e
along_or-gives P d (way ∷ ways) other r h f e =
    elim way.0 as (λ b. way.0 ≡ b → (if b then Ok (goes d way.1) else along_or d ways other) ≡ Ok r → P r) [
      | true ↦ λ w g. (let same : goes d way.1 ≡ r = cc in subst P same (h.0 w))
      | false ↦ λ w g. along_or-gives P d ways other r h.1 f g
    ] refl e

pub along-gives : (P : Reader → Type 0) (d : Draft) (t : Token) (ways : List (Bool × Due)) (r : Reader)
    → AllByRecursion (λ (way : Bool × Due). way.0 ≡ true → P (goes d way.1)) ways → along d t ways ≡ Ok r → P r
along-gives P d t ways r h e = along_or-gives P d ways (misfit t) r h (λ f. cc) e
