-- One more text among entries, and its code.
use Rattle.std.proofs.Common.{◌≡◌, ℕ, suc, ◌<◌, ◌&&◌, ◌||◌, Bool, true, false, cond, List, [], ◌∷◌, ◌++◌, Some, None, length, get_or, take, drop, refl, sym, ap, subst, ◌∙◌, ⊎_elim, arith, append-nil}
use Rattle.std.specs.Prelude.{is_some, option_map, unwrap_or}
use Rattle.std.specs.List.{list_any, cons_option}
use Rattle.std.specs.Str.{bytes_eq}
use Rattle.std.proofs.Math.ListN.{set}
use Rattle.std.proofs.lemmas.Bool.{cases_eq, eq-eqb, ne_eqb}
use Rattle.std.proofs.lemmas.List.{get_or-set_same, get_or-set_other, length-take, take_all, take-append-drop, take-append-le}
use Rattle.fact_model.specs.declared.fact.Value.TheVariants.{Word}
use Rattle.spec_points.specs.Codes.{Text, admitted, place, same_entry, for_attr}
use Rattle.spec_points.specs.Points.{coord}
use Rattle.spec_points.proofs.Codes.{code-kept}
use Rattle.spec_points.proofs.Names.{admitted-for}
use Rattle.attr_dict.specs.Admitting.{Grew, fresh, entry_text, entries_text}
use Rattle.attr_dict.specs.Coding.{AreNamesOf}

abbrev Entry : Type 0
Entry = ℕ × Text

for-here : (a : ℕ) (t : Text) → for_attr a ((a, t) ∷ []) ≡ t ∷ []
for-here a t = ap (λ (b : Bool). cons_option (cond b (Some t) None) []) (eq-eqb a a refl)

for-other : (a b : ℕ) (t : Text) → (a ≡ b → ⊥) → for_attr b ((a, t) ∷ []) ≡ []
for-other a b t apart = ap (λ (c : Bool). cons_option (cond c (Some t) None) []) (ne_eqb a b apart)

-- an entry is seen where its text is among those of its attribute
seen-text : (a : ℕ) (t : Text) (es : List Entry) → list_any (same_entry (a, t)) es ≡ list_any (bytes_eq t) (for_attr a es)
seen-text a t [] = refl
seen-text a t (e ∷ es) =
    ⊎_elim
    (λ (q : e.0 ≡ a).
    (λ i. ((eq-eqb a e.0 (sym q) i && bytes_eq t e.1) || seen-text a t es i)) ∙ sym (ap (λ (b : Bool). list_any (bytes_eq t) (cons_option (cond b (Some e.1) None) (for_attr a es))) (eq-eqb e.0 a q)))
    (λ (q : e.0 ≡ a → ⊥).
    (λ i. ((ne_eqb a e.0 (λ s. q (sym s)) i && bytes_eq t e.1) || seen-text a t es i)) ∙ sym (ap (λ (b : Bool). list_any (bytes_eq t) (cons_option (cond b (Some e.1) None) (for_attr a es))) (ne_eqb e.0 a q)))
    (cases_eq e.0 a)

-- the names of an attribute where a text of it is admitted
pub names-entered : (names : List (List Text)) (seen : List Entry) (a : ℕ) (t : Text) (new : List Text) → a < length names → new ≡ admitted bytes_eq (get_or names a []) (t ∷ []) → AreNamesOf seen names
    → AreNamesOf (admitted same_entry seen ((a, t) ∷ [])) (set names a new)
names-entered names seen a t new lt is are b =
    admitted-for b seen ((a, t) ∷ []) ∙ ⊎_elim
    (λ (q : a ≡ b).
    subst (λ c. admitted bytes_eq (for_attr c seen) (for_attr c ((a, t) ∷ [])) ≡ get_or (set names a new) c []) q
    ((λ i. admitted bytes_eq (are a i) (for-here a t i)) ∙ sym is ∙ sym (get_or-set_same names a new [] lt)))
    (λ (q : a ≡ b → ⊥). ap (admitted bytes_eq (for_attr b seen)) (for-other a b t q) ∙ are b ∙ sym (get_or-set_other names a b new [] (λ s. q (sym s))))
    (cases_eq a b)

-- its entry is written where it is new
pub entry-written : (names : List (List Text)) (seen : List Entry) (a : ℕ) (t : Text) (written more : List ℕ) → more ≡ written ++ cond (list_any (bytes_eq t) (get_or names a [])) [] (entry_text (a, t)) → AreNamesOf seen names
    → more ≡ written ++ entries_text (fresh same_entry seen ((a, t) ∷ []))
entry-written names seen a t written more is are =
    is ∙ ap (λ w. written ++ w)
    (ap (λ b. cond b [] (entry_text (a, t))) (sym (seen-text a t seen ∙ ap (list_any (bytes_eq t)) (are a))) ∙ by (list_any (same_entry (a, t)) seen))
  where
    by : (b : Bool) → cond b [] (entry_text (a, t)) ≡ entries_text (cond b [] ((a, t) ∷ []))
    by true = refl
    by false = sym (append-nil (entry_text (a, t)))

-- ---- names grow

pub grew-not : (ns : List Text) → Grew ns ns
grew-not ns = take_all (length ns) ns (omega arith)

-- also where one text was admitted
pub grew-here : (names : List (List Text)) (a : ℕ) (new : List Text) → a < length names → Grew (get_or names a []) new → (b : ℕ) → Grew (get_or names b []) (get_or (set names a new) b [])
grew-here names a new lt grew b =
    ⊎_elim (λ (q : b ≡ a). subst (λ k. Grew (get_or names k []) (get_or (set names a new) k [])) (sym q) (subst (Grew (get_or names a [])) (sym (get_or-set_same names a new [] lt)) grew))
    (λ (q : b ≡ a → ⊥). subst (Grew (get_or names b [])) (sym (get_or-set_other names a b new [] q)) (grew-not (get_or names b [])))
    (cases_eq b a)

-- more names stand behind
more-behind : (ns later : List Text) → Grew ns later → later ≡ ns ++ drop (length ns) later
more-behind ns later grew = sym (take-append-drop (length ns) later) ∙ ap (λ front. front ++ drop (length ns) later) grew

pub grew-on : (xs ys zs : List Text) → Grew xs ys → Grew ys zs → Grew xs zs
grew-on xs ys zs first second =
    let size = ap length first in
    let low = length-take (length xs) ys in
    ap (take (length xs)) (more-behind ys zs second) ∙ take-append-le (length xs) ys (drop (length ys) zs) (omega arith) ∙ first

-- ---- codes

-- the code that a text has among names is its code among more names
pub code-later : (t : Text) (ns later : List Text) (code : ℕ) → Some code ≡ option_map suc (place bytes_eq t ns) → Grew ns later → code ≡ coord later (Word t)
code-later t ns later code is grew =
    let more = drop (length ns) later in
    ap (λ o. unwrap_or o 0) (is ∙ sym (code-kept ns more (Word t) (ap is_some (sym is)))) ∙ ap (λ names. coord names (Word t)) (sym (more-behind ns later grew))
