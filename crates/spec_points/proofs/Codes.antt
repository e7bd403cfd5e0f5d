-- Codes are kept by more facts, and lead back to their values.
use Rattle.std.proofs.Common.{◌≡◌, ℕ, suc, Bool, true, false, cond, ◌||◌, List, [], ◌∷◌, ◌++◌, Option, Some, None, option_map, unwrap_or, is_some, slice_get, refl, sym, ◌∙◌, ap, subst, true≢false, inl, inr, append_assoc, append-nil, arith, ◌≤◌}
use Rattle.std.proofs.lemmas.Bool.{cases_Bool}
use Rattle.std.proofs.lemmas.List.Elements.{filter_map-append}
use Rattle.std.specs.List.{list_any, cons_option, AllByRecursion, All}
use Rattle.std.specs.Str.{bytes_eq}
use Rattle.std.specs.Cmp.Lexicographic.{bytes_decides}
use Rattle.fact_model.specs.declared.fact.Value.{Value}
use Rattle.fact_model.specs.declared.fact.Value.TheVariants.{Word, Number}
use Rattle.fact_model.specs.declared.fact.Fact.{Fact}
use Rattle.fact_model.specs.Fact.{value_at}
use Rattle.spec_points.specs.Agree.{is_text, HasCode, IsCoded}
use Rattle.spec_points.specs.Codes.{Text, admitted, place, text_in, texts_at, names_of, code_in, code, value_in}
use Rattle.spec_points.proofs.Members.{All-from_every, All-map, every-from_All, every-left}

module _ {A : Type 0} (same : A → A → Bool) where
  -- items admitted one list after the other
  pub admitted-append : (seen xs ys : List A) → admitted same seen (xs ++ ys) ≡ admitted same (admitted same seen xs) ys
  admitted-append seen [] ys = refl
  admitted-append seen (x ∷ xs) ys = admitted-append (cond (list_any (same x) seen) seen (seen ++ x ∷ [])) xs ys

  -- what was seen stays in front
  pub admitted-more : (seen xs : List A) → (more : List A) × (admitted same seen xs ≡ seen ++ more)
  admitted-more seen [] = ([], sym (append-nil seen))
  admitted-more seen (x ∷ xs) = elim (cases_Bool (list_any (same x) seen)) [
    | inl e ↦ let h = admitted-more seen xs in (h.0, ap (λ (b : Bool). admitted same (cond b seen (seen ++ x ∷ [])) xs) e ∙ h.1)
    | inr e ↦ let h = admitted-more (seen ++ x ∷ []) xs in (x ∷ h.0, ap (λ (b : Bool). admitted same (cond b seen (seen ++ x ∷ [])) xs) e ∙ (h.1 ∙ append_assoc seen (x ∷ []) h.0))
  ]

  -- an item found stays where it is
  pub place-kept : (x : A) (ys zs : List A) → is_some (place same x ys) ≡ true → place same x (ys ++ zs) ≡ place same x ys
  place-kept x [] zs h = absurd (true≢false (sym h))
  place-kept x (y ∷ ys) zs h = elim (cases_Bool (same x y)) [
    | inl e ↦ ap (λ (b : Bool). cond b (Some 0) (option_map suc (place same x (ys ++ zs)))) e ∙ sym (ap (λ (b : Bool). cond b (Some 0) (option_map suc (place same x ys))) e)
    | inr e ↦ ap (λ r. cond (same x y) (Some 0) (option_map suc r)) (place-kept x ys zs (sym (through (place same x ys)) ∙ (ap (λ (b : Bool). is_some (cond b (Some 0) (option_map suc (place same x ys)))) (sym e) ∙ h)))
  ]
    where
      through : (q : Option ℕ) → is_some (option_map suc q) ≡ is_some q
      through None = refl
      through (Some i) = refl

  -- an item is found among those where a test finds it
  pub place-any : (x : A) (ys : List A) → is_some (place same x ys) ≡ list_any (same x) ys
  place-any x [] = refl
  place-any x (y ∷ ys) = elim (same x y) as (λ b. is_some (cond b (Some 0) (option_map suc (place same x ys))) ≡ (b || list_any (same x) ys)) [ true ↦ refl | false ↦ through (place same x ys) ∙ place-any x ys ]
    where
      through : (q : Option ℕ) → is_some (option_map suc q) ≡ is_some q
      through None = refl
      through (Some i) = refl

  place-last : (x : A) (ys : List A) → same x x ≡ true → list_any (same x) (ys ++ x ∷ []) ≡ true
  place-last x [] e = ap (λ (b : Bool). b || false) e
  place-last x (y ∷ ys) e = elim (same x y) as (λ b. (b || list_any (same x) (ys ++ x ∷ [])) ≡ true) [ true ↦ refl | false ↦ place-last x ys e ]

  -- after its admission an item has a place
  pub place-new : ((x : A) → same x x ≡ true) → (x : A) (seen xs : List A) → is_some (place same x (admitted same seen (x ∷ xs))) ≡ true
  place-new itself x seen xs =
      let now : List A = cond (list_any (same x) seen) seen (seen ++ x ∷ []) in
      let found : is_some (place same x now) ≡ true = place-any x now ∙ elim (cases_Bool (list_any (same x) seen)) [
        | inl e ↦ ap (λ (b : Bool). list_any (same x) (cond b seen (seen ++ x ∷ []))) e ∙ e
        | inr e ↦ ap (λ (b : Bool). list_any (same x) (cond b seen (seen ++ x ∷ []))) e ∙ place-last x seen (itself x)
      ] in
      let more = admitted-more now xs in
      ap (λ l. is_some (place same x l)) more.1 ∙ (ap is_some (place-kept x now more.0 found) ∙ found)

  -- the item at the place found
  pub place-get : ((x y : A) → same x y ≡ true → x ≡ y) → (x : A) (ys : List A) (i : ℕ) → place same x ys ≡ Some i → slice_get ys i ≡ Some x
  place-get one x [] i h = absurd (true≢false (ap is_some (sym h)))
  place-get one x (y ∷ ys) i h = elim (cases_Bool (same x y)) [
    | inl e ↦ at-first i (ap (λ (b : Bool). cond b (Some 0) (option_map suc (place same x ys))) (sym e) ∙ h) (one x y e)
    | inr e ↦ later (λ j. place-get one x ys j) (place same x ys) i refl (ap (λ (b : Bool). cond b (Some 0) (option_map suc (place same x ys))) (sym e) ∙ h)
  ]
    where
      at-first : (i : ℕ) → Some 0 ≡ Some i → x ≡ y → slice_get (y ∷ ys) i ≡ Some x
      at-first i q e = ap (λ o. slice_get (y ∷ ys) (unwrap_or o 0)) (sym q) ∙ ap Some (sym e)

      later : ((j : ℕ) → place same x ys ≡ Some j → slice_get ys j ≡ Some x) → (o : Option ℕ) (i : ℕ) → place same x ys ≡ o → option_map suc o ≡ Some i → slice_get (y ∷ ys) i ≡ Some x
      later f None i p q = absurd (true≢false (ap is_some (sym q)))
      later f (Some j) i p q = ap (λ o. slice_get (y ∷ ys) (unwrap_or o 0)) (sym q) ∙ f j p

text-itself : (t : Text) → bytes_eq t t ≡ true
text-itself t = (bytes_decides t t).1 refl

text-one : (t u : Text) → bytes_eq t u ≡ true → t ≡ u
text-one t u = (bytes_decides t u).0

through : (q : Option ℕ) → is_some (option_map suc q) ≡ is_some q
through None = refl
through (Some i) = refl

-- a code stays when names are added behind
pub code-kept : (ns more : List Text) (v : Value) → HasCode ns v → code_in (ns ++ more) v ≡ code_in ns v
code-kept ns more (Number n) h = refl
code-kept ns more (Word t) h = ap (option_map suc) (place-kept bytes_eq t ns more (sym (through (place bytes_eq t ns)) ∙ h))

coded-kept : (ns more : List Text) (v : Value) → HasCode ns v → HasCode (ns ++ more) v
coded-kept ns more v h = ap is_some (code-kept ns more v h) ∙ h

-- the names in order of first appearance code all values of the facts
pub coded-from : (a : ℕ) (seen : List Text) (facts : List Fact) → AllByRecursion (λ x. HasCode (admitted bytes_eq seen (texts_at a facts)) (value_at x a)) facts
coded-from a seen [] = tt
coded-from a seen (x ∷ facts) = by (λ s. coded-from a s facts) (value_at x a) refl
  where
    by : ((s : List Text) → AllByRecursion (λ y. HasCode (admitted bytes_eq s (texts_at a facts)) (value_at y a)) facts) → (v : Value) → value_at x a ≡ v → HasCode (admitted bytes_eq seen (texts_at a (x ∷ facts))) (value_at x a)
        × AllByRecursion (λ y. HasCode (admitted bytes_eq seen (texts_at a (x ∷ facts))) (value_at y a)) facts
    by rest (Word t) e =
        let list : texts_at a (x ∷ facts) ≡ t ∷ texts_at a facts = ap (λ v. cons_option (text_in v) (texts_at a facts)) e in (
          subst (λ v. HasCode (admitted bytes_eq seen (texts_at a (x ∷ facts))) v) (sym e)
              (subst (λ l. HasCode (admitted bytes_eq seen l) (Word t)) (sym list) (through (place bytes_eq t (admitted bytes_eq seen (t ∷ texts_at a facts))) ∙ place-new bytes_eq text-itself t seen (texts_at a facts))),
          subst (λ l. AllByRecursion (λ y. HasCode (admitted bytes_eq seen l) (value_at y a)) facts) (sym list) (rest (cond (list_any (bytes_eq t) seen) seen (seen ++ t ∷ []))),
        )
    by rest (Number n) e =
        let list : texts_at a (x ∷ facts) ≡ texts_at a facts = ap (λ v. cons_option (text_in v) (texts_at a facts)) e in (
          subst (λ v. HasCode (admitted bytes_eq seen (texts_at a (x ∷ facts))) v) (sym e) refl,
          subst (λ l. AllByRecursion (λ y. HasCode (admitted bytes_eq seen l) (value_at y a)) facts) (sym list) (rest seen),
        )

-- the facts' own names code their values
pub coded : (a : ℕ) (facts : List Fact) → All (λ x. HasCode (names_of facts a) (value_at x a)) facts
coded a facts = All-from_every (λ x. HasCode (names_of facts a) (value_at x a)) facts (coded-from a [] facts)

texts-append : (a : ℕ) (xs ys : List Fact) → texts_at a (xs ++ ys) ≡ texts_at a xs ++ texts_at a ys
texts-append a xs ys = filter_map-append (λ x. text_in (value_at x a)) xs ys

-- the names of more facts: those of the first, and then the new ones of the others
pub names-append : (xs ys : List Fact) (a : ℕ) → names_of (xs ++ ys) a ≡ admitted bytes_eq (names_of xs a) (texts_at a ys)
names-append xs ys a = ap (admitted bytes_eq []) (texts-append a xs ys) ∙ admitted-append bytes_eq [] (texts_at a xs) (texts_at a ys)

-- each value of the first facts has the same code among more facts
pub codes-kept : (a : ℕ) (xs ys : List Fact) → All (λ x. code (xs ++ ys) a (value_at x a) ≡ code xs a (value_at x a)) xs
codes-kept a xs ys = All-map (λ x. HasCode (names_of xs a) (value_at x a)) (λ x. code (xs ++ ys) a (value_at x a) ≡ code xs a (value_at x a))
    (λ x h. let more = admitted-more bytes_eq (names_of xs a) (texts_at a ys) in
    ap (λ ns. code_in ns (value_at x a)) (names-append xs ys a ∙ more.1) ∙ code-kept (names_of xs a) more.0 (value_at x a) h)
    xs (coded a xs)

-- a code leads back to its value
pub value-of-code : (ns : List Text) (v : Value) (c : ℕ) → code_in ns v ≡ Some c → value_in (is_text v) ns c ≡ Some v
value-of-code ns (Number n) c h = ap (λ o. value_in false ns (unwrap_or o 0)) (sym h)
value-of-code ns (Word t) c h = by (place bytes_eq t ns) refl h
  where
    by : (o : Option ℕ) → place bytes_eq t ns ≡ o → option_map suc o ≡ Some c → value_in true ns c ≡ Some (Word t)
    by None p q = absurd (true≢false (ap is_some (sym q)))
    by (Some i) p q = ap (λ o. value_in true ns (unwrap_or o 0)) (sym q) ∙ ap (option_map Word) (place-get bytes_eq text-one t ns i p)

-- values of one kind with one code are equal
pub one-value : (ns : List Text) (v w : Value) (c : ℕ) → is_text v ≡ is_text w → code_in ns v ≡ Some c → code_in ns w ≡ Some c → v ≡ w
one-value ns v w c k p q = ap (λ o. unwrap_or o v) (sym (value-of-code ns v c p) ∙ (ap (λ b. value_in b ns c) k ∙ value-of-code ns w c q))

-- codes are positive
pub code-positive : (ns : List Text) (v : Value) (c : ℕ) → code_in ns v ≡ Some c → 1 ≤ c
code-positive ns (Number n) c h = subst (λ o. 1 ≤ unwrap_or o 1) h (omega arith)
code-positive ns (Word t) c h = by (place bytes_eq t ns) h
  where
    by : (o : Option ℕ) → option_map suc o ≡ Some c → 1 ≤ c
    by None q = absurd (true≢false (ap is_some (sym q)))
    by (Some i) q = subst (λ o. 1 ≤ unwrap_or o 1) q (omega arith)

-- ---- the facts' own names code all their values

-- each fact has codes for all its values
pub own-names : (facts : List Fact) → All (IsCoded (names_of facts)) facts
own-names facts = λ k d low a. coded a facts k d low

-- also the names of more facts
pub own-names_left : (xs ys : List Fact) → All (IsCoded (names_of (xs ++ ys))) xs
own-names_left xs ys =
    let coded-by = IsCoded (names_of (xs ++ ys)) in
    All-from_every coded-by xs (every-left coded-by xs ys (every-from_All coded-by (xs ++ ys) (own-names (xs ++ ys))))
