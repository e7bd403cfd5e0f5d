-- A text meets tests exactly where it is each text that they want.
use Rattle.std.proofs.Common.{◌≡◌, ℕ, Bool, true, false, not, cond, ◌&&◌, ◌||◌, List, [], ◌∷◌, ◌++◌, refl, sym, ◌∙◌, ap}
use Rattle.std.specs.Prelude.{option_to_list}
use Rattle.std.specs.List.{list_all}
use Rattle.std.proofs.lemmas.Bool.{and_parts}
use Rattle.fact_model.specs.declared.fact.Value.TheVariants.{Word}
use Rattle.fact_model.specs.Value.{same_value}
use Rattle.cube_schema.specs.declared.schema.Kind.TheVariants as kind
use Rattle.sql_lang.specs.declared.query.Operand.TheVariants as operand
use Rattle.sql_lang.specs.declared.query.Sign.TheVariants.{Equal, Less, LessEqual, More, MoreEqual}
use Rattle.sql_lang.specs.declared.query.Test.{Test}
use Rattle.sql_lang.specs.declared.query.Test.TheVariants.{Compare, Between, OneOf}
use Rattle.sql_lang.specs.Agreeing.{fits_kind}
use Rattle.sql_slice.specs.Plans.{bounds, wanted, texts_in}
use Rattle.sql_lang.specs.Tests.{passes, is_list}

-- the second text is the first
abbrev pub is : List ℕ → List ℕ → Bool
is u text = same_value (Word text) (Word u)

module _ (u : List ℕ) (most : ℕ) where
  alone : (b : Bool) → b ≡ (b && true)
  alone true = refl
  alone false = refl

  and-assoc : (p q r : Bool) → (p && (q && r)) ≡ ((p && q) && r)
  and-assoc true q r = refl
  and-assoc false q r = refl

  -- a test other than IN that fits a text
  passes-wanted : (t : Test) → is_list t ≡ false → fits_kind (kind.Word most) t ≡ true → passes t (Word u) ≡ list_all (is u) (option_to_list (wanted t))
  passes-wanted (Compare a Equal (operand.Word text)) plain fits = alone (is u text)
  passes-wanted (Compare a Equal (operand.Whole z)) plain fits = cc
  passes-wanted (Compare a Less value) plain fits = cc
  passes-wanted (Compare a LessEqual value) plain fits = cc
  passes-wanted (Compare a More value) plain fits = cc
  passes-wanted (Compare a MoreEqual value) plain fits = cc
  passes-wanted (Between a low high) plain fits = cc
  passes-wanted (OneOf a values) plain fits = cc

  all-append : (xs ys : List (List ℕ)) → list_all (is u) (xs ++ ys) ≡ (list_all (is u) xs && list_all (is u) ys)
  all-append [] ys = refl
  all-append (x ∷ xs) ys = ap (λ b. is u x && b) (all-append xs ys) ∙ and-assoc (is u x) (list_all (is u) xs) (list_all (is u) ys)

  bound-plain : (a : ℕ) (t : Test) → bounds a t ≡ true → is_list t ≡ false
  bound-plain a (Compare b sign v) e = refl
  bound-plain a (Between b low high) e = refl
  bound-plain a (OneOf b values) e = cc

  test-texts : (a : ℕ) (t : Test) → (bounds a t ≡ true → passes t (Word u) ≡ list_all (is u) (option_to_list (wanted t)))
      → (not (bounds a t) || passes t (Word u)) ≡ list_all (is u) (cond (bounds a t) (option_to_list (wanted t)) [])
  test-texts a t h = by (bounds a t) refl
    where
      by : (b : Bool) → bounds a t ≡ b → (not b || passes t (Word u)) ≡ list_all (is u) (cond b (option_to_list (wanted t)) [])
      by true e = h e
      by false e = refl

  pub text-wanted : (a : ℕ) (tests : List Test) → list_all (λ t. not (bounds a t) || fits_kind (kind.Word most) t) tests ≡ true
      → list_all (λ t. not (bounds a t) || passes t (Word u)) tests ≡ list_all (is u) (texts_in a tests)
  text-wanted a [] fit = refl
  text-wanted a (t ∷ tests) fit =
      let fits = and_parts (not (bounds a t) || fits_kind (kind.Word most) t) (list_all (λ t. not (bounds a t) || fits_kind (kind.Word most) t) tests) fit in
      let here = test-texts a t (λ e. passes-wanted t (bound-plain a t e) (ap (λ b. not b || fits_kind (kind.Word most) t) (sym e) ∙ fits.0)) in
      (λ i. here i && text-wanted a tests fits.1 i) ∙ sym (all-append (cond (bounds a t) (option_to_list (wanted t)) []) (texts_in a tests))
