-- How the parts of a text begin that is joined from others.
use Rattle.std.proofs.Common.{◌≡◌, ℕ, Bool, true, false, not, ◌&&◌, cond, List, [], ◌∷◌, ◌++◌, Ok, refl, sym, ◌∙◌, ap, subst, append_assoc, append-nil}
use Rattle.std.specs.Prelude.{◌==◌, flat_map}
use Rattle.std.specs.List.{list_all, AllByRecursion}
use Rattle.std.proofs.lemmas.Bool.{and_parts, not-true, eq-eqb}
use Rattle.slice_lang.specs.Answers.{Reading, ◌>>=◌, gathered}
use Rattle.slice_lang.specs.Parts.{Part, byte_of, is_quote, onto, within, parts_from}
use Rattle.slice_lang.specs.Writing.{doubled}
use Rattle.slice_lang.proofs.PartSteps.{joined, joined-nothing}

never : (b : Bool) → (b && false) ≡ false
never true = refl
never false = refl

pub onto-joined : (byte : ℕ) (text : List ℕ) (parts : List Part) → onto byte (joined text parts) ≡ joined (byte ∷ text) parts
onto-joined byte text [] = refl
onto-joined byte text (part ∷ more) = refl

pub joined-joined : (a b : List ℕ) (parts : List Part) → joined a (joined b parts) ≡ joined (a ++ b) parts
joined-joined a b [] = refl
joined-joined a b (part ∷ more) = ap (λ text. record { end = part.end; text = text } ∷ more) (sym (append_assoc a b part.text))

-- neither the separator nor a quote
abbrev pub is_plain : ℕ → ℕ → Bool
is_plain separator byte = not (byte == separator) && not (is_quote byte)

module _ (separator end : ℕ) where
  -- outside quotes, the text goes into the first part, and does not open quotes
  abbrev pub Passes : List ℕ → Type 0
  Passes text = (rest : List ℕ) → parts_from separator end false (text ++ rest) ≡ joined text (parts_from separator end false rest)

  pub passes-nothing : Passes []
  passes-nothing rest = sym (joined-nothing (parts_from separator end false rest))

  pub passes-joined : (a b : List ℕ) → Passes a → Passes b → Passes (a ++ b)
  passes-joined a b pass-a pass-b rest =
      ap (parts_from separator end false) (append_assoc a b rest) ∙ pass-a (b ++ rest) ∙ ap (joined a) (pass-b rest) ∙ joined-joined a b (parts_from separator end false rest)

  pub passes-plain : (text : List ℕ) → list_all (is_plain separator) text ≡ true → Passes text
  passes-plain [] h rest = passes-nothing rest
  passes-plain (byte ∷ more) h rest =
      let each = and_parts (is_plain separator byte) (list_all (is_plain separator) more) h in
      let neither = and_parts (not (byte == separator)) (not (is_quote byte)) each.0 in
      let apart : (byte == separator) ≡ false = not-true (byte == separator) neither.0 in
      let unquoted : is_quote byte ≡ false = not-true (is_quote byte) neither.1 in
      ap (λ b. cond (b && true) (record { end = byte_of end (byte ∷ (more ++ rest)); text = [] } ∷ parts_from separator end false (more ++ rest))
      (onto byte (parts_from separator end (within false byte) (more ++ rest)))) apart
      ∙ ap (λ b. onto byte (parts_from separator end (cond b true false) (more ++ rest))) unquoted
      ∙ ap (onto byte) (passes-plain more each.1 rest)
      ∙ onto-joined byte more (parts_from separator end false rest)

  -- what stands before a separator is the first part
  pub first-part : (text rest : List ℕ) → Passes text → parts_from separator end false (text ++ separator ∷ rest) ≡ record { end = byte_of end (separator ∷ rest); text = text } ∷ parts_from separator end false rest
  first-part text rest pass =
      pass (separator ∷ rest)
      ∙ ap (λ b. joined text (cond (b && true) (record { end = byte_of end (separator ∷ rest); text = [] } ∷ parts_from separator end false rest)
      (onto separator (parts_from separator end (within false separator) rest)))) (eq-eqb separator separator refl)
      ∙ ap (λ t. record { end = byte_of end (separator ∷ rest); text = t } ∷ parts_from separator end false rest) (append-nil text)

  -- a text without separators is one part
  pub last-part : (text : List ℕ) → Passes text → parts_from separator end false text ≡ record { end = end; text = text } ∷ []
  last-part text pass =
      ap (parts_from separator end false) (sym (append-nil text)) ∙ pass [] ∙ ap (λ t. record { end = end; text = t } ∷ []) (append-nil text)

-- texts of items with commas between are read as these items
module _ {A : Type 0} (text : A → List ℕ) (read : List A → Part → Reading A) (P : List A → Type 0)
    (passes : (x : A) (done more : List A) → P (done ++ x ∷ more) → (end : ℕ) → Passes 44 end (text x))
    (again : (x : A) (done more : List A) → P (done ++ x ∷ more) → (end : ℕ) → read done (record { end = end; text = text x }) ≡ Ok x) where
  pub gathered-again : (more : List A) (x : A) (done : List A) (end : ℕ) → P (done ++ x ∷ more)
      → gathered read done (parts_from 44 end false (text x ++ flat_map (λ y. 44 ∷ text y) more)) ≡ Ok (done ++ x ∷ more)
  gathered-again [] x done end lawful =
      ap (λ t. gathered read done (parts_from 44 end false t)) (append-nil (text x))
      ∙ ap (gathered read done) (last-part 44 end (text x) (passes x done [] lawful end))
      ∙ ap (λ r. r >>= (λ item. Ok (done ++ item ∷ []))) (again x done [] lawful end)
  gathered-again (y ∷ more) x done end lawful =
      let rest = text y ++ flat_map (λ z. 44 ∷ text z) more in
      let here = byte_of end (44 ∷ rest) in
      let assoc = append_assoc done (x ∷ []) (y ∷ more) in
      ap (gathered read done) (first-part 44 end (text x) rest (passes x done (y ∷ more) lawful end))
      ∙ ap (λ r. r >>= (λ item. gathered read (done ++ item ∷ []) (parts_from 44 end false rest))) (again x done (y ∷ more) lawful here)
      ∙ gathered-again more y (done ++ x ∷ []) end (subst P (sym assoc) lawful)
      ∙ ap Ok assoc

-- such texts go into the first word, if each of them does
pub passes-all : {A : Type 0} (end : ℕ) (text : A → List ℕ) (more : List A) → AllByRecursion (λ x. Passes 32 end (text x)) more → Passes 32 end (flat_map (λ y. 44 ∷ text y) more)
passes-all end text [] all = passes-nothing 32 end
passes-all end text (x ∷ more) all =
    passes-joined 32 end (44 ∷ text x) (flat_map (λ y. 44 ∷ text y) more) (passes-joined 32 end (44 ∷ []) (text x) (passes-plain 32 end (44 ∷ []) refl) all.0) (passes-all end text more all.1)

onto-alone : (byte : ℕ) (parts : List Part) → onto byte parts ≡ joined (byte ∷ []) parts
onto-alone byte [] = refl
onto-alone byte (part ∷ more) = refl

-- quotes that are doubled open and close
within-passes : (end : ℕ) (text rest : List ℕ) → parts_from 32 end true ((flat_map doubled text ++ 34 ∷ []) ++ rest) ≡ joined (flat_map doubled text ++ 34 ∷ []) (parts_from 32 end false rest)
within-passes end [] rest = onto-alone 34 (parts_from 32 end false rest)
within-passes end (byte ∷ more) rest =
    let front = flat_map doubled more ++ 34 ∷ [] in
    let behind = parts_from 32 end false rest in
    let next = within-passes end more rest in
    elim (is_quote byte) as (λ b. is_quote byte ≡ b
    → parts_from 32 end true (((cond b (34 ∷ 34 ∷ []) (byte ∷ []) ++ flat_map doubled more) ++ 34 ∷ []) ++ rest) ≡ joined ((cond b (34 ∷ 34 ∷ []) (byte ∷ []) ++ flat_map doubled more) ++ 34 ∷ []) behind) [
      | true ↦ λ h. ap (λ ps. onto 34 (onto 34 ps)) next ∙ ap (onto 34) (onto-joined 34 front behind) ∙ onto-joined 34 (34 ∷ front) behind
      | false ↦ λ h. ap (λ b. cond b (record { end = byte_of end (byte ∷ (front ++ rest)); text = [] } ∷ parts_from 32 end false (front ++ rest))
          (onto byte (parts_from 32 end (within true byte) (front ++ rest)))) (never (byte == 32))
          ∙ ap (λ b. onto byte (parts_from 32 end (cond b false true) (front ++ rest))) h
          ∙ ap (onto byte) next
          ∙ onto-joined byte front behind
    ] refl

pub quoted-passes : (end : ℕ) (text : List ℕ) → Passes 32 end (34 ∷ (flat_map doubled text ++ 34 ∷ []))
quoted-passes end text rest = ap (onto 34) (within-passes end text rest) ∙ onto-joined 34 (flat_map doubled text ++ 34 ∷ []) (parts_from 32 end false rest)
