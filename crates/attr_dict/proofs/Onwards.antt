-- A loop over entries: those to come make of those seen now what all made of those seen at the start.
use Rattle.std.proofs.Common.{◌≡◌, ℕ, true, false, cond, List, [], ◌∷◌, ◌++◌, refl, sym, ap, subst, ◌∙◌, append_assoc, append-nil}
use Rattle.std.specs.List.{list_any}
use Rattle.std.proofs.lemmas.List.Concat.{flat_map-append}
use Rattle.spec_points.specs.Codes.{Text, admitted, same_entry}
use Rattle.spec_points.proofs.Codes.{admitted-append}
use Rattle.attr_dict.specs.Admitting.{fresh, entry_text, entries_text}
use Rattle.attr_dict.specs.Coding.{AreNamesOf}

abbrev Entry : Type 0
Entry = ℕ × Text

fresh-append : (seen xs ys : List Entry) → fresh same_entry seen (xs ++ ys) ≡ fresh same_entry seen xs ++ fresh same_entry (admitted same_entry seen xs) ys
fresh-append seen [] ys = refl
fresh-append seen (x ∷ xs) ys =
    elim (list_any (same_entry x) seen) as (λ b. cond b (fresh same_entry seen (xs ++ ys)) (x ∷ fresh same_entry (seen ++ x ∷ []) (xs ++ ys))
    ≡ cond b (fresh same_entry seen xs) (x ∷ fresh same_entry (seen ++ x ∷ []) xs) ++ fresh same_entry (admitted same_entry (cond b seen (seen ++ x ∷ [])) xs) ys) [
      | true ↦ fresh-append seen xs ys
      | false ↦ ap (λ r. x ∷ r) (fresh-append (seen ++ x ∷ []) xs ys)
    ]

pub text-append : (xs ys : List Entry) → entries_text (xs ++ ys) ≡ entries_text xs ++ entries_text ys
text-append xs ys = flat_map-append entry_text xs ys

-- the new entries are those that admitting puts behind the seen
pub admitted-fresh : (seen xs : List Entry) → admitted same_entry seen xs ≡ seen ++ fresh same_entry seen xs
admitted-fresh seen [] = sym (append-nil seen)
admitted-fresh seen (x ∷ xs) =
    elim (list_any (same_entry x) seen) as (λ b. admitted same_entry (cond b seen (seen ++ x ∷ [])) xs ≡ seen ++ cond b (fresh same_entry seen xs) (x ∷ fresh same_entry (seen ++ x ∷ []) xs)) [
      | true ↦ admitted-fresh seen xs
      | false ↦ admitted-fresh (seen ++ x ∷ []) xs ∙ append_assoc seen (x ∷ []) (fresh same_entry (seen ++ x ∷ []) xs)
    ]

-- the entries seen now, whose texts are the names, and what is written of them
pub record Onward (names : List (List Text)) (written : List ℕ) (seen all rest : List Entry) : Type 0 where
  pub now : List Entry
  pub names_are : AreNamesOf now names
  pub writes : written ++ entries_text (fresh same_entry now rest) ≡ entries_text (fresh same_entry seen all)
  pub admits : admitted same_entry now rest ≡ admitted same_entry seen all

pub onward-start : (names : List (List Text)) (written : List ℕ) (seen all : List Entry) → written ≡ [] → AreNamesOf seen names → Onward names written seen all all
onward-start names written seen all none are = record { now = seen; names_are = are; writes = ap (λ w. w ++ entries_text (fresh same_entry seen all)) none; admits = refl }

-- the entries `more` are in front of the rest, and what was made of them is right
pub onward-step : (names names' : List (List Text)) (written written' : List ℕ) (seen all more rest : List Entry) → Onward names written seen all (more ++ rest)
    → ((s : List Entry) → AreNamesOf s names → AreNamesOf (admitted same_entry s more) names') → ((s : List Entry) → AreNamesOf s names → written' ≡ written ++ entries_text (fresh same_entry s more)) → Onward names' written' seen all rest
onward-step names names' written written' seen all more rest onward goes-on writes =
    let fresh-more = fresh same_entry onward.now more in
    let fresh-rest = fresh same_entry (admitted same_entry onward.now more) rest in
    record {
      now = admitted same_entry onward.now more;
      names_are = goes-on onward.now onward.names_are;
      writes = ap (λ w. w ++ entries_text fresh-rest) (writes onward.now onward.names_are) ∙ append_assoc written (entries_text fresh-more) (entries_text fresh-rest)
          ∙ ap (λ w. written ++ w) (sym (text-append fresh-more fresh-rest) ∙ ap entries_text (sym (fresh-append onward.now more rest))) ∙ onward.writes;
      admits = sym (admitted-append same_entry onward.now more rest) ∙ onward.admits;
    }

pub onward-written : (names : List (List Text)) (written : List ℕ) (seen all : List Entry) → Onward names written seen all [] → written ≡ entries_text (fresh same_entry seen all)
onward-written names written seen all onward = sym (append-nil written) ∙ onward.writes

pub onward-names : (names : List (List Text)) (written : List ℕ) (seen all : List Entry) → Onward names written seen all [] → AreNamesOf (admitted same_entry seen all) names
onward-names names written seen all onward = subst (λ es. AreNamesOf es names) onward.admits onward.names_are
