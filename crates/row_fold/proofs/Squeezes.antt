-- Neighbours of one key joined.
use Rattle.std.proofs.Common.{◌≡◌, Bool, true, false, cond, List, [], ◌∷◌, sym, ◌∙◌, ap, inl, inr}
use Rattle.std.proofs.lemmas.Bool.{cases_Bool}
use Rattle.std.specs.declared.cmp.Ordering.{Ordering}
use Rattle.std.specs.Cmp.{Equal-is}
use Rattle.std.specs.FinMap.{IsAntisymmetric}
use Rattle.std.specs.Ordering.{is_eq}
use Rattle.row_fold.specs.Squeezed.{onto, squeezed}

module _ {K : Type 0} (R : K → K → Ordering) (only : IsAntisymmetric R) {C : Type 0} (join : C → C → C) (assoc : (a b c : C) → join (join a b) c ≡ join a (join b c)) where
  -- an entry in front of one of its key, and of one of another
  onto-same : (e x : K × C) (xs : List (K × C)) → is_eq (R e.0 x.0) ≡ true → onto R join e (x ∷ xs) ≡ (e.0, join e.1 x.1) ∷ xs
  onto-same e x xs h = ap (λ (b : Bool). cond b ((e.0, join e.1 x.1) ∷ xs) (e ∷ x ∷ xs)) h

  onto-other : (e x : K × C) (xs : List (K × C)) → is_eq (R e.0 x.0) ≡ false → onto R join e (x ∷ xs) ≡ e ∷ x ∷ xs
  onto-other e x xs h = ap (λ (b : Bool). cond b ((e.0, join e.1 x.1) ∷ xs) (e ∷ x ∷ xs)) h

  twice : (e d : K × C) (s : List (K × C)) → is_eq (R e.0 d.0) ≡ true → onto R join e (onto R join d s) ≡ onto R join (e.0, join e.1 d.1) s
  twice e d [] same = onto-same e d [] same
  twice e d (x ∷ xs) same =
      let here : e.0 ≡ d.0 = only e.0 d.0 ((Equal-is (R e.0 d.0)).0 same) in
      let moved : is_eq (R e.0 x.0) ≡ is_eq (R d.0 x.0) = ap (λ k. is_eq (R k x.0)) here in
      elim (cases_Bool (is_eq (R d.0 x.0))) [
        | inl t ↦ ap (onto R join e) (onto-same d x xs t)
            ∙ (onto-same e (d.0, join d.1 x.1) xs same
            ∙ ((λ i. (e.0, sym (assoc e.1 d.1 x.1) i) ∷ xs) ∙ sym (onto-same (e.0, join e.1 d.1) x xs (moved ∙ t))))
        | inr f ↦ ap (onto R join e) (onto-other d x xs f) ∙ (onto-same e d (x ∷ xs) same ∙ sym (onto-other (e.0, join e.1 d.1) x xs (moved ∙ f)))
      ]

  -- two neighbours of one key are as their join
  pub squeezed-same : (e d : K × C) (es : List (K × C)) → is_eq (R e.0 d.0) ≡ true → squeezed R join (e ∷ d ∷ es) ≡ squeezed R join ((e.0, join e.1 d.1) ∷ es)
  squeezed-same e d es same = twice e d (squeezed R join es) same

  behind : (e d : K × C) (s : List (K × C)) → is_eq (R e.0 d.0) ≡ false → onto R join e (onto R join d s) ≡ e ∷ onto R join d s
  behind e d [] other = onto-other e d [] other
  behind e d (x ∷ xs) other = elim (cases_Bool (is_eq (R d.0 x.0))) [
    | inl t ↦ ap (onto R join e) (onto-same d x xs t) ∙ (onto-other e (d.0, join d.1 x.1) xs other ∙ sym (ap (λ r. e ∷ r) (onto-same d x xs t)))
    | inr f ↦ ap (onto R join e) (onto-other d x xs f) ∙ (onto-other e d (x ∷ xs) other ∙ sym (ap (λ r. e ∷ r) (onto-other d x xs f)))
  ]

  -- an entry whose next has another key stays as it is
  pub squeezed-other : (e d : K × C) (es : List (K × C)) → is_eq (R e.0 d.0) ≡ false → squeezed R join (e ∷ d ∷ es) ≡ e ∷ squeezed R join (d ∷ es)
  squeezed-other e d es other = behind e d (squeezed R join es) other
