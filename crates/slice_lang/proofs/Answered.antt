-- What follows from an answer that is a value.
use Rattle.std.proofs.Common.{◌≡◌, ◌+◌, Bool, true, false, List, [], ◌∷◌, ◌++◌, length, Option, Some, None, Ok, Err, refl, ap, ◌∙◌, subst, arith}
use Rattle.std.specs.Prelude.{if◌then◌else◌}
use Rattle.std.proofs.lemmas.List.{length_push}
use Rattle.slice_lang.specs.Parts.{Part}
use Rattle.slice_lang.specs.Answers.{Reading, ◌>>=◌, judged, or_refused, gathered}
use Rattle.slice_lang.specs.declared.refusal.SliceRefusal.{SliceRefusal}

-- each rule holds
abbrev pub Hold : List (Bool × SliceRefusal) → Type 0
Hold [] = Unit {0}
Hold (rule ∷ rules) = (rule.0 ≡ true) × Hold rules

module _ {A : Type 0} where
  pub judged-ok : (x y : A) (rules : List (Bool × SliceRefusal)) → judged x rules ≡ Ok y → (x ≡ y) × Hold rules
  judged-ok x y [] e = (cc, tt)
  judged-ok x y (rule ∷ rules) e =
      elim rule.0 as (λ b. (if b then judged x rules else Err rule.1) ≡ Ok y → (x ≡ y) × ((b ≡ true) × Hold rules)) [
        | true ↦ λ f. (let rest = judged-ok x y rules f in (rest.0, (refl, rest.1)))
        | false ↦ λ f. cc
      ] e

  pub judged-all : (x : A) (rules : List (Bool × SliceRefusal)) → Hold rules → judged x rules ≡ Ok x
  judged-all x [] h = refl
  judged-all x (rule ∷ rules) h = ap (λ b. if b then judged x rules else Err rule.1) h.0 ∙ judged-all x rules h.1

  pub bound-ok : {B : Type 0} (r : Reading A) (next : A → Reading B) (y : B) → (r >>= next) ≡ Ok y → (x : A) × (r ≡ Ok x) × (next x ≡ Ok y)
  bound-ok (Ok x) next y e = (x, refl, e)
  bound-ok (Err refusal) next y e = cc

  pub some-ok : (refusal : SliceRefusal) (found : Option A) (y : A) → or_refused refusal found ≡ Ok y → found ≡ Some y
  some-ok refusal None y e = cc
  some-ok refusal (Some x) y e = cc

  pub chosen-ok : (b : Bool) (r : Reading A) (refusal : SliceRefusal) (y : A) → (if b then r else Err refusal) ≡ Ok y → (b ≡ true) × (r ≡ Ok y)
  chosen-ok true r refusal y e = (refl, e)
  chosen-ok false r refusal y e = cc

  -- what holds of the items so far holds of all, of which there is one for each part
  pub gathered-ok : (P : List A → Type 0) (read : List A → Part → Reading A) → ((items : List A) (part : Part) (item : A) → P items → read items part ≡ Ok item → P (items ++ item ∷ []))
      → (items : List A) (parts : List Part) (all : List A) → P items → gathered read items parts ≡ Ok all → P all × (length all ≡ length items + length parts)
  gathered-ok P read keep items [] all p e = (subst P (cc) p, (let same : items ≡ all = cc in omega (arith, ap length same)))
  gathered-ok P read keep items (part ∷ more) all p e =
      let step = bound-ok (read items part) (λ item. gathered read (items ++ item ∷ []) more) all e in
      let rest = gathered-ok P read keep (items ++ step.0 ∷ []) more all (keep items part step.0 p step.1) step.2 in
      (rest.0, omega (arith, rest.1, length_push items step.0))
