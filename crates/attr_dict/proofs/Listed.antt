-- Names as entries.
use Rattle.std.proofs.Common.{◌≡◌, ℕ, zero, suc, ◌+◌, ◌<◌, ◌==◌, cond, List, [], ◌∷◌, ◌++◌, Option, Some, None, get_or, map, refl, ap, ◌∙◌, arith, append-nil}
use Rattle.std.specs.List.{cons_option}
use Rattle.std.proofs.lemmas.Bool.{eq-eqb, ne_eqb}
use Rattle.std.proofs.lemmas.List.Elements.{filter_map-append}
use Rattle.spec_points.specs.Codes.{Text, for_attr}
use Rattle.attr_dict.specs.Coding.{AreNamesOf}

abbrev Entry : Type 0
Entry = ℕ × Text

abbrev text_for : ℕ → Entry → Option Text
text_for a e = cond (e.0 == a) (Some e.1) None

-- entries of these names, from an attribute on
abbrev pub listed : ℕ → List (List Text) → List Entry
listed k [] = []
listed k (ns ∷ names) = map (λ t. (k, t)) ns ++ listed (suc k) names

own-texts : (k : ℕ) (ns : List Text) → for_attr k (map (λ t. (k, t)) ns) ≡ ns
own-texts k [] = refl
own-texts k (t ∷ ns) = ap (λ b. cons_option (cond b (Some t) None) (for_attr k (map (λ u. (k, u)) ns))) (eq-eqb k k refl) ∙ ap (λ r. t ∷ r) (own-texts k ns)

other-texts : (k a : ℕ) (ns : List Text) → (k ≡ a → ⊥) → for_attr a (map (λ t. (k, t)) ns) ≡ []
other-texts k a [] apart = refl
other-texts k a (t ∷ ns) apart = ap (λ b. cons_option (cond b (Some t) None) (for_attr a (map (λ u. (k, u)) ns))) (ne_eqb k a apart) ∙ other-texts k a ns apart

listed-before : (k a : ℕ) (names : List (List Text)) → a < k → for_attr a (listed k names) ≡ []
listed-before k a [] lt = refl
listed-before k a (ns ∷ names) lt =
    filter_map-append (text_for a) (map (λ t. (k, t)) ns) (listed (suc k) names) ∙ (λ i. other-texts k a ns (λ q. omega arith) i ++ listed-before (suc k) a names (omega arith) i)

listed-at : (k i a : ℕ) (names : List (List Text)) → k + i ≡ a → for_attr a (listed k names) ≡ get_or names i []
listed-at k i a [] is = refl
listed-at k zero a (ns ∷ names) is =
    let here : a ≡ k = omega arith in
    filter_map-append (text_for a) (map (λ t. (k, t)) ns) (listed (suc k) names)
    ∙ (λ j. (ap (λ c. for_attr c (map (λ t. (k, t)) ns)) here ∙ own-texts k ns) j ++ listed-before (suc k) a names (omega arith) j) ∙ append-nil ns
listed-at k (suc i) a (ns ∷ names) is =
    filter_map-append (text_for a) (map (λ t. (k, t)) ns) (listed (suc k) names)
    ∙ (λ j. other-texts k a ns (λ q. omega arith) j ++ listed-at (suc k) i a names (omega arith) j)

pub listed-names : (names : List (List Text)) → AreNamesOf (listed 0 names) names
listed-names names a = listed-at 0 a a names (omega arith)
