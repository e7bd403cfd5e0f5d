-- Of entries in order, those that pass a test stand next to one another where whatever lies between two that pass passes.
use Rattle.std.proofs.Common.{◌≡◌, Bool, true, false, cond, List, [], ◌∷◌, ◌++◌, filter, inl, inr, refl, sym, ap, ◌∙◌, true≢false}
use Rattle.std.proofs.lemmas.Bool.{cases_Bool}
use Rattle.std.specs.List.{AllByRecursion}
use Rattle.std.specs.declared.cmp.Ordering.{Ordering}
use Rattle.std.specs.declared.cmp.Ordering.TheVariants.{Less}
use Rattle.row_fold.specs.Ascends.{Ascends, Below}
use Rattle.replica_route.specs.Together.{IsPart}

module _ {K C : Type 0} (R : K → K → Ordering) (p : K → Bool) (Good : K → Type 0)
    (convex : (a b c : K) → Good b → R a b ≡ Less → R b c ≡ Less → p a ≡ true → p c ≡ true → p b ≡ true) where
  abbrev kept : List (K × C) → List (K × C)
  kept es = filter (λ (e : K × C). p e.0) es

  kept-is : (b : Bool) (e : K × C) (es : List (K × C)) → p e.0 ≡ b → kept (e ∷ es) ≡ cond b (e ∷ kept es) (kept es)
  kept-is b e es is = ap (λ t. cond t (e ∷ kept es) (kept es)) is

  -- behind one that passes and then one that does not, none passes
  none-after : (a b : K) → Good b → R a b ≡ Less → p a ≡ true → p b ≡ false → (es : List (K × C)) → Below R b es → kept es ≡ []
  none-after a b good low pass fail [] below = refl
  none-after a b good low pass fail (e ∷ es) below = elim (cases_Bool (p e.0)) [
    | inl is ↦ absurd (true≢false (sym (convex a b e.0 good low below.0 pass is) ∙ fail))
    | inr not ↦ kept-is false e es not ∙ none-after a b good low pass fail es below.1
  ]

  -- behind one that passes, those that pass come first
  front : (a : K) → p a ≡ true → (es : List (K × C)) → Below R a es → Ascends R es → AllByRecursion (λ e. Good e.0) es → (after : List (K × C)) × (es ≡ kept es ++ after)
  front a pass [] below order good = ([], refl)
  front a pass (e ∷ es) below order good = elim (cases_Bool (p e.0)) [
    | inl is ↦ let more = front a pass es below.1 order.1 good.1 in
        (more.0, ap (λ l. e ∷ l) more.1 ∙ ap (λ l. l ++ more.0) (sym (kept-is true e es is)))
    | inr not ↦ (e ∷ es, ap (λ l. l ++ (e ∷ es)) (sym (kept-is false e es not ∙ none-after a e.0 good.0 below.0 pass not es order.0)))
  ]

  pub convex-part : (es : List (K × C)) → Ascends R es → AllByRecursion (λ e. Good e.0) es → IsPart es (kept es)
  convex-part [] order good = record { before = []; after = []; is = refl }
  convex-part (e ∷ es) order good = elim (cases_Bool (p e.0)) [
    | inl is ↦ let more = front e.0 is es order.0 order.1 good.1 in
        record { before = []; after = more.0; is = ap (λ l. e ∷ l) more.1 ∙ ap (λ l. l ++ more.0) (sym (kept-is true e es is)) }
    | inr not ↦ let more = convex-part es order.1 good.1 in
        record { before = e ∷ more.before; after = more.after; is = ap (λ l. e ∷ l) more.is ∙ ap (λ l. e ∷ (more.before ++ (l ++ more.after))) (sym (kept-is false e es not)) }
  ]
