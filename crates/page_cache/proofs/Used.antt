-- What is kept once a page was used.
use Rattle.std.proofs.Common.{◌≡◌, ◌≤◌, ◌+◌, inl, inr, ℕ, Bool, true, false, cond, List, [], ◌∷◌, length, Some, is_some, refl, sym, ap, ◌∙◌, subst, arith, length-take, take_all}
use Rattle.std.specs.Prelude.{◌==◌}
use Rattle.std.specs.Cmp.{IsEquivalence, nat_eq_equiv}
use Rattle.std.specs.List.{All}
use Rattle.std.specs.Map.{lookup, remove_entry}
use Rattle.std.proofs.lemmas.Bool.{and_parts, both_ways, cases_Bool, cond-true, cond-false, eqb-true}
use Rattle.std.proofs.lemmas.Cmp.{and_equiv, on_equiv}
use Rattle.std.proofs.lemmas.List.Elements.{All-cons, All-head, All-tail, All-take}
use Rattle.page_cache.specs.Giving.{Name, same_name, used}

-- ---- names

pub name-is : (a b : Name) → same_name a b ≡ true → a ≡ b
name-is a b same =
    let both = and_parts (a.0 == b.0) (a.1 == b.1) same in
    λ i. (eqb-true a.0 b.0 both.0 i, eqb-true a.1 b.1 both.1 i)

pub name-laws : IsEquivalence same_name
name-laws = and_equiv (on_equiv (λ (n : Name). n.0) nat_eq_equiv) (on_equiv (λ (n : Name). n.1) nat_eq_equiv)

-- ---- pages by their names

module _ {V : Type 0} where
  -- a page that is found is one of them, with this name
  pub All-lookup : (P : Name × V → Type 0) (es : List (Name × V)) (name : Name) (page : V) → All P es → lookup (same_name name) es ≡ Some page → P (name, page)
  All-lookup P [] name page all is = cc
  All-lookup P (e ∷ es) name page all is = elim (cases_Bool (same_name name e.0)) [
    | inl here ↦
        let value : e.1 ≡ page = some-same e.1 page (sym (cond-true _ (Some e.1) (lookup (same_name name) es) here) ∙ is) in
        subst P (λ i. (sym (name-is name e.0 here) i, value i)) (All-head P e es all)
    | inr apart ↦ All-lookup P es name page (All-tail P e es all) (sym (cond-false _ (Some e.1) (lookup (same_name name) es) apart) ∙ is)
  ]
    where
      some-same : (a b : V) → Some a ≡ Some b → a ≡ b
      some-same a b is = cc

  pub All-remove : (P : Name × V → Type 0) (test : Name → Bool) (es : List (Name × V)) → All P es → All P (remove_entry test es)
  All-remove P test [] all = all
  All-remove P test (e ∷ es) all = elim (cases_Bool (test e.0)) [
    | inl here ↦ subst (All P) (sym (cond-true _ es (e ∷ remove_entry test es) here)) (All-tail P e es all)
    | inr apart ↦ subst (All P) (sym (cond-false _ es (e ∷ remove_entry test es) apart)) (All-cons P e (remove_entry test es) (All-head P e es all) (All-remove P test es (All-tail P e es all)))
  ]

  -- where none is found, none goes
  pub remove-none : (test : Name → Bool) (es : List (Name × V)) → is_some (lookup test es) ≡ false → remove_entry test es ≡ es
  remove-none test [] none = refl
  remove-none test (e ∷ es) none = elim (cases_Bool (test e.0)) [
    | inl here ↦ absurd (both_ways (is_some (lookup test (e ∷ es))) none (ap is_some (cond-true _ (Some e.1) (lookup test es) here)))
    | inr apart ↦ cond-false _ es (e ∷ remove_entry test es) apart ∙ ap (λ l. e ∷ l) (remove-none test es (sym (ap is_some (cond-false _ (Some e.1) (lookup test es) apart)) ∙ none))
  ]

  -- where one is found, one goes
  pub remove-one : (test : Name → Bool) (es : List (Name × V)) → is_some (lookup test es) ≡ true → length (remove_entry test es) + 1 ≡ length es
  remove-one test [] some = cc
  remove-one test (e ∷ es) some = elim (cases_Bool (test e.0)) [
    | inl here ↦ omega (arith, ap length (cond-true _ es (e ∷ remove_entry test es) here))
    | inr apart ↦
        let rest = remove-one test es (sym (ap is_some (cond-false _ (Some e.1) (lookup test es) apart)) ∙ some) in
        omega (arith, rest, ap length (cond-false _ es (e ∷ remove_entry test es) apart))
  ]

  -- the others are found as before
  pub lookup-others : (name other : Name) (es : List (Name × V)) → same_name other name ≡ false → lookup (same_name other) (remove_entry (same_name name) es) ≡ lookup (same_name other) es
  lookup-others name other [] apart = refl
  lookup-others name other (e ∷ es) apart = elim (cases_Bool (same_name name e.0)) [
    | inl here ↦
        let not-other : same_name other e.0 ≡ false = subst (λ n. same_name other n ≡ false) (name-is name e.0 here) apart in
        ap (lookup (same_name other)) (cond-true _ es (e ∷ remove_entry (same_name name) es) here) ∙ sym (cond-false _ (Some e.1) (lookup (same_name other) es) not-other)
    | inr passed ↦
        ap (lookup (same_name other)) (cond-false _ es (e ∷ remove_entry (same_name name) es) passed)
        ∙ ap (cond (same_name other e.0) (Some e.1)) (lookup-others name other es apart)
  ]

-- ---- what is kept once a page was used

module _ (P : Name × List ℕ → Type 0) where
  pub used-all : (capacity : ℕ) (name : Name) (page : List ℕ) (kept : List (Name × List ℕ)) → All P kept → P (name, page) → All P (used capacity name page kept)
  used-all capacity name page kept all one =
      All-take P capacity ((name, page) ∷ remove_entry (same_name name) kept)
      (All-cons P (name, page) (remove_entry (same_name name) kept) one (All-remove P (same_name name) kept all))

module _ (capacity : ℕ) (name : Name) (page : List ℕ) (kept : List (Name × List ℕ)) where
  -- where it was kept before, there are as many as before
  pub used-again : is_some (lookup (same_name name) kept) ≡ true → length (used capacity name page kept) ≤ length kept
  used-again is = omega (arith, length-take capacity ((name, page) ∷ remove_entry (same_name name) kept), remove-one (same_name name) kept is)

  -- otherwise at most one more
  pub used-more : is_some (lookup (same_name name) kept) ≡ false → length (used capacity name page kept) ≤ length kept + 1
  used-more is = omega (arith, length-take capacity ((name, page) ∷ remove_entry (same_name name) kept), ap length (remove-none (same_name name) kept is))

  -- where there is room, it is kept, and each page that was kept before
  module _ (room : length (remove_entry (same_name name) kept) + 1 ≤ capacity) where
    all-of : used capacity name page kept ≡ (name, page) ∷ remove_entry (same_name name) kept
    all-of = take_all capacity ((name, page) ∷ remove_entry (same_name name) kept) (omega (arith, room))

    pub used-itself : is_some (lookup (same_name name) (used capacity name page kept)) ≡ true
    used-itself = ap (λ l. is_some (lookup (same_name name) l)) all-of ∙ ap is_some (cond-true _ (Some page) (lookup (same_name name) (remove_entry (same_name name) kept)) (name-laws.refl name))

    pub used-others : (other : Name) → is_some (lookup (same_name other) kept) ≡ true → is_some (lookup (same_name other) (used capacity name page kept)) ≡ true
    used-others other is = elim (cases_Bool (same_name other name)) [
      | inl here ↦ ap (λ l. is_some (lookup (same_name other) l)) all-of ∙ ap is_some (cond-true _ (Some page) (lookup (same_name other) (remove_entry (same_name name) kept)) here)
      | inr apart ↦
          ap (λ l. is_some (lookup (same_name other) l)) all-of
          ∙ (ap is_some (cond-false _ (Some page) (lookup (same_name other) (remove_entry (same_name name) kept)) apart)
          ∙ (ap is_some (lookup-others name other kept apart) ∙ is))
    ]
