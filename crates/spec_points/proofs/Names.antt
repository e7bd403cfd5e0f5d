-- The names of more facts begin with those of the first, are distinct, and those of one attribute are the texts of its entries.
use Rattle.std.proofs.Common.{◌≡◌, ℕ, zero, suc, ◌+◌, ◌<◌, ◌==◌, ◌&&◌, ◌||◌, Bool, true, false, cond, List, [], ◌∷◌, ◌++◌, get_or, Option, Some, None, refl, sym, ◌∙◌, ap, subst, arith, append-nil, append_assoc, inl, inr, true≢false}
use Rattle.std.proofs.lemmas.Bool.{cases_Bool, eqb-true, eq-eqb, ne_eqb, or_parts}
use Rattle.std.proofs.lemmas.List.Elements.{filter_map-append}
use Rattle.std.specs.List.{list_any, cons_option, AllByRecursion, IsDistinct}
use Rattle.std.specs.Str.{bytes_eq}
use Rattle.std.specs.Cmp.Lexicographic.{bytes_decides}
use Rattle.fact_model.specs.declared.fact.Value.{Value}
use Rattle.fact_model.specs.declared.fact.Value.TheVariants.{Word, Number}
use Rattle.fact_model.specs.declared.fact.Fact.{Fact}
use Rattle.fact_model.specs.Fact.{value_at}
use Rattle.spec_points.specs.Codes.{Text, admitted, text_in, texts_at, names_of, texts_from, same_entry, named, names, for_attr}
use Rattle.spec_points.proofs.Codes.{admitted-append, admitted-more}

abbrev text_for : ℕ → (ℕ × Text) → Option Text
text_for a e = cond (e.0 == a) (Some e.1) None

named-append : (xs ys : List Fact) → named (xs ++ ys) ≡ named xs ++ named ys
named-append [] ys = refl
named-append (x ∷ xs) ys = ap (λ r. texts_from 0 x.values ++ r) (named-append xs ys) ∙ sym (append_assoc (texts_from 0 x.values) (named xs) (named ys))

-- the names of more facts: the new ones stand behind
pub names-more : (xs ys : List Fact) → names (xs ++ ys) ≡ admitted same_entry (names xs) (named ys)
names-more xs ys = ap (admitted same_entry []) (named-append xs ys) ∙ admitted-append same_entry [] (named xs) (named ys)

-- the names of more facts begin with those of the first
pub names-begin : (xs ys : List Fact) → (more : List (ℕ × Text)) × (names (xs ++ ys) ≡ names xs ++ more)
names-begin xs ys = let h = admitted-more same_entry (names xs) (named ys) in (h.0, names-more xs ys ∙ h.1)

any-for : (a : ℕ) (t : Text) (es : List (ℕ × Text)) → list_any (same_entry (a, t)) es ≡ list_any (bytes_eq t) (for_attr a es)
any-for a t [] = refl
any-for a t (e ∷ es) = elim (cases_Bool (e.0 == a)) [
  | inl q ↦ (λ i. ((eq-eqb a e.0 (sym (eqb-true e.0 a q)) i && bytes_eq t e.1) || any-for a t es i)) ∙ sym (ap (λ (b : Bool). list_any (bytes_eq t) (cons_option (cond b (Some e.1) None) (for_attr a es))) q)
  | inr q ↦ (λ i. ((other a e.0 q i && bytes_eq t e.1) || any-for a t es i)) ∙ sym (ap (λ (b : Bool). list_any (bytes_eq t) (cons_option (cond b (Some e.1) None) (for_attr a es))) q)
]
  where
    other : (a b : ℕ) → (b == a) ≡ false → (a == b) ≡ false
    other a b q = ne_eqb a b (λ e. true≢false (sym (eq-eqb b a (sym e)) ∙ q))

-- entries admitted and then those of one attribute: its texts admitted
pub admitted-for : (a : ℕ) (seen es : List (ℕ × Text)) → for_attr a (admitted same_entry seen es) ≡ admitted bytes_eq (for_attr a seen) (for_attr a es)
admitted-for a seen [] = refl
admitted-for a seen (e ∷ es) = admitted-for a (cond (list_any (same_entry e) seen) seen (seen ++ e ∷ [])) es ∙ elim (cases_Bool (e.0 == a)) [
  | inl q ↦
      let here : e.0 ≡ a = eqb-true e.0 a q in
      let test : list_any (same_entry e) seen ≡ list_any (bytes_eq e.1) (for_attr a seen) = ap (λ b. list_any (same_entry (b, e.1)) seen) here ∙ any-for a e.1 seen in
      let more : for_attr a (seen ++ e ∷ []) ≡ for_attr a seen ++ e.1 ∷ [] = filter_map-append (text_for a) seen (e ∷ []) ∙ ap (λ (b : Bool). for_attr a seen ++ cons_option (cond b (Some e.1) None) []) q in
      ap (λ l. admitted bytes_eq l (for_attr a es)) (chosen (list_any (same_entry e) seen) seen (seen ++ e ∷ []) ∙ (λ i. cond (test i) (for_attr a seen) (more i)))
      ∙ sym (ap (λ (b : Bool). admitted bytes_eq (for_attr a seen) (cons_option (cond b (Some e.1) None) (for_attr a es))) q)
  | inr q ↦
      let more : for_attr a (seen ++ e ∷ []) ≡ for_attr a seen = filter_map-append (text_for a) seen (e ∷ []) ∙ (ap (λ (b : Bool). for_attr a seen ++ cons_option (cond b (Some e.1) None) []) q ∙ append-nil (for_attr a seen)) in
      ap (λ l. admitted bytes_eq l (for_attr a es)) (chosen (list_any (same_entry e) seen) seen (seen ++ e ∷ []) ∙ (ap (λ l. cond (list_any (same_entry e) seen) (for_attr a seen) l) more ∙ both (list_any (same_entry e) seen) (for_attr a seen)))
      ∙ sym (ap (λ (b : Bool). admitted bytes_eq (for_attr a seen) (cons_option (cond b (Some e.1) None) (for_attr a es))) q)
]
  where
    chosen : (b : Bool) (us vs : List (ℕ × Text)) → for_attr a (cond b us vs) ≡ cond b (for_attr a us) (for_attr a vs)
    chosen true us vs = refl
    chosen false us vs = refl

    both : {A : Type 0} (b : Bool) (x : A) → cond b x x ≡ x
    both true x = refl
    both false x = refl

-- the texts of a fact from an attribute on
after-none : (k a : ℕ) (vs : List Value) → a < k → for_attr a (texts_from k vs) ≡ []
after-none k a [] l = refl
after-none k a (Word t ∷ vs) l = ap (λ (b : Bool). cons_option (cond b (Some t) None) (for_attr a (texts_from (suc k) vs))) (ne_eqb k a (λ e. omega arith)) ∙ after-none (suc k) a vs (omega arith)
after-none k a (Number n ∷ vs) l = after-none (suc k) a vs (omega arith)

fact-texts : (k i : ℕ) (vs : List Value) → for_attr (k + i) (texts_from k vs) ≡ cons_option (text_in (get_or vs i (Number 0))) []
fact-texts k i [] = refl
fact-texts k zero (Word t ∷ vs) = ap (λ (b : Bool). cons_option (cond b (Some t) None) (for_attr (k + 0) (texts_from (suc k) vs))) (eq-eqb k (k + 0) (omega arith)) ∙ ap (λ r. t ∷ r) (after-none (suc k) (k + 0) vs (omega arith))
fact-texts k zero (Number n ∷ vs) = after-none (suc k) (k + 0) vs (omega arith)
fact-texts k (suc i) (Word t ∷ vs) = ap (λ (b : Bool). cons_option (cond b (Some t) None) (for_attr (k + suc i) (texts_from (suc k) vs))) (ne_eqb k (k + suc i) (λ e. omega arith))
    ∙ (ap (λ j. for_attr j (texts_from (suc k) vs)) (moved k i) ∙ fact-texts (suc k) i vs)
  where
    moved : (k i : ℕ) → k + suc i ≡ suc k + i
    moved k i = omega arith
fact-texts k (suc i) (Number n ∷ vs) = ap (λ j. for_attr j (texts_from (suc k) vs)) (moved k i) ∙ fact-texts (suc k) i vs
  where
    moved : (k i : ℕ) → k + suc i ≡ suc k + i
    moved k i = omega arith

-- the entries of an attribute are its texts
pub named-for : (a : ℕ) (facts : List Fact) → for_attr a (named facts) ≡ texts_at a facts
named-for a [] = refl
named-for a (x ∷ facts) = filter_map-append (text_for a) (texts_from 0 x.values) (named facts)
    ∙ ((λ i. (ap (λ j. for_attr j (texts_from 0 x.values)) (front a) ∙ fact-texts 0 a x.values) i ++ named-for a facts i) ∙ joined-option (text_in (value_at x a)) (texts_at a facts))
  where
    front : (a : ℕ) → a ≡ 0 + a
    front a = omega arith

    joined-option : (o : Option Text) (ts : List Text) → cons_option o [] ++ ts ≡ cons_option o ts
    joined-option None ts = refl
    joined-option (Some t) ts = refl

-- the names of an attribute are the texts of its entries, in the order of the entries
pub names-for : (a : ℕ) (facts : List Fact) → for_attr a (names facts) ≡ names_of facts a
names-for a facts = admitted-for a [] (named facts) ∙ ap (admitted bytes_eq []) (named-for a facts)

none-push : (t : Text) (ys : List Text) (x : Text) → AllByRecursion (λ y. bytes_eq t y ≡ false) ys → bytes_eq t x ≡ false → AllByRecursion (λ y. bytes_eq t y ≡ false) (ys ++ x ∷ [])
none-push t [] x h e = (e, tt)
none-push t (y ∷ ys) x h e = (h.0, none-push t ys x h.1 e)

same-back : (t u : Text) → bytes_eq t u ≡ false → bytes_eq u t ≡ false
same-back t u e = elim (cases_Bool (bytes_eq u t))
    [ inl s ↦ absurd (true≢false (sym ((bytes_decides t u).1 (sym ((bytes_decides u t).0 s))) ∙ e)) | inr s ↦ s ]

pub distinct-push : (ys : List Text) (x : Text) → IsDistinct bytes_eq ys → list_any (bytes_eq x) ys ≡ false → IsDistinct bytes_eq (ys ++ x ∷ [])
unfolding IsDistinct
distinct-push [] x d e = (tt, tt)
distinct-push (y ∷ ys) x d e = let parts = or_parts (bytes_eq x y) (list_any (bytes_eq x) ys) e in (none-push y ys x d.0 (same-back x y parts.0), distinct-push ys x d.1 parts.1)

pub distinct-admitted : (seen xs : List Text) → IsDistinct bytes_eq seen → IsDistinct bytes_eq (admitted bytes_eq seen xs)
distinct-admitted seen [] d = d
distinct-admitted seen (x ∷ xs) d = elim (cases_Bool (list_any (bytes_eq x) seen)) [
  | inl e ↦ subst (λ (b : Bool). IsDistinct bytes_eq (admitted bytes_eq (cond b seen (seen ++ x ∷ [])) xs)) (sym e) (distinct-admitted seen xs d)
  | inr e ↦ subst (λ (b : Bool). IsDistinct bytes_eq (admitted bytes_eq (cond b seen (seen ++ x ∷ [])) xs)) (sym e) (distinct-admitted (seen ++ x ∷ []) xs (distinct-push seen x d e))
]

-- no name of an attribute stands twice
pub names-distinct : (facts : List Fact) (a : ℕ) → IsDistinct bytes_eq (names_of facts a)
unfolding IsDistinct
names-distinct facts a = distinct-admitted [] (texts_at a facts) tt
